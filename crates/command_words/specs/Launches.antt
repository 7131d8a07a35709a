-- What the arguments ask for besides options.
use Rattle.std.specs.Prelude.{Result, Ok, Err}
use Rattle.launch_options.specs.declared.asked.Options.{Options}
use Rattle.launch_options.specs.declared.fault.LaunchFault.{LaunchFault}
use Rattle.command_words.specs.declared.launch.Launch.{Launch}

-- the options of what the arguments ask for, or why they ask for nothing
abbrev pub options_in : Result Launch LaunchFault → Result Options LaunchFault
options_in (Ok launch) = Ok launch.options
options_in (Err fault) = Err fault

-- The arguments that the system gives the program.
use Rattle.std.specs.Prelude.{◌≡◌}
use Rattle.std.specs.declared.io.ErrorKind.{ErrorKind}
use Rattle.std.specs.declared.io.ErrorKind.TheVariants as kinds
use Rattle.launch_options.specs.declared.fault.LaunchFault.{LaunchFault}
use Rattle.launch_options.specs.declared.fault.LaunchFault.TheVariants.{NoMemory, BadWords}

-- want of memory is told apart; arguments that are no text are arguments that give no options
abbrev pub IsGivenFault : ErrorKind → LaunchFault → Type 0
IsGivenFault kinds.OutOfMemory fault = fault ≡ NoMemory
IsGivenFault _ fault = fault ≡ BadWords

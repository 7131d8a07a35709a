-- What the program does after a run.
use Rattle.std.specs.Prelude.{Option, Some, None, Result, Ok, Err}
use Rattle.run_outputs.specs.declared.exit_status.ExitStatus.{ExitStatus}
use Rattle.launch_options.specs.declared.fault.LaunchFault.{LaunchFault}
use Rattle.launch_options.specs.declared.fault.LaunchFault.TheVariants.{CutReport, Writing}

-- the refusal that a line is printed for: none where the output failed, since a line on it is of no use, nor where a report was cut short,
-- since the output is whole
abbrev pub line_of : LaunchFault → Option LaunchFault
line_of (Writing fault) = None
line_of (CutReport number) = None
line_of fault = Some fault

-- the refusal that a line is printed for, after this answer
abbrev pub line_after : Result ExitStatus LaunchFault → Option LaunchFault
line_after (Ok status) = None
line_after (Err fault) = line_of fault

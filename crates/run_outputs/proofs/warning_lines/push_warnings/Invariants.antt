-- The lines of the keys so far.
use Rattle.std.proofs.Common.{◌≡◌, ◌++◌, take, string_bytes}
use Rattle.std.specs.List.{flat_map}
use Rattle.launch_options.specs.Given.{behind}
use Rattle.run_outputs.specs.WarningTexts.{warning_line}
use Rattle.run_outputs.proofs.warning_lines.push_warnings.Given as goal

abbrev pub invariant-loop-key : goal.invariant-loop-key
invariant-loop-key l = string_bytes l.text ≡ string_bytes l.initial.text ++ flat_map (warning_line l.details) (behind (take l.key-index l.keys))

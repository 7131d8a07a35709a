-- One of the texts that are left names the file if one of all does.
use Rattle.std.proofs.Common.{◌≡◌, drop}
use Rattle.launch_options.specs.Given.{behind}
use Rattle.launch_options.specs.ReportTexts.{names_file}
use Rattle.launch_options.proofs.reports.names_file.Given as goal

abbrev pub invariant-loop-text : goal.invariant-loop-text
invariant-loop-text l = names_file (behind (drop l.text-index l.texts)) l.file ≡ names_file (behind l.texts) l.file

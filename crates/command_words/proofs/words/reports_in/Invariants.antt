-- The texts so far ask for the reports.
use Rattle.std.proofs.Common.{◌≡◌, map, take}
use Rattle.std.specs.List.{filter_map}
use Rattle.launch_options.specs.Given.{behind}
use Rattle.launch_options.specs.ReportTexts.{parts_of, report_in}
use Rattle.command_words.proofs.words.reports_in.Given as goal

abbrev pub invariant-loop-index : goal.invariant-loop-index
invariant-loop-index l = map parts_of l.reports.items ≡ filter_map report_in (behind (take l.index l.texts))

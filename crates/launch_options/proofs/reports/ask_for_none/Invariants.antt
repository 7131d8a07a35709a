-- One of the texts that are left asks for no report if one of all does.
use Rattle.std.proofs.Common.{◌≡◌, drop}
use Rattle.std.specs.List.{list_any}
use Rattle.launch_options.specs.Given.{behind}
use Rattle.launch_options.specs.ReportTexts.{asks_for_none}
use Rattle.launch_options.proofs.reports.ask_for_none.Given as goal

abbrev pub invariant-loop-text : goal.invariant-loop-text
invariant-loop-text l = list_any asks_for_none (behind (drop l.text-index l.texts)) ≡ list_any asks_for_none (behind l.texts)

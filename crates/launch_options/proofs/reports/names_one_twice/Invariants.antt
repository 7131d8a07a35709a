-- Two of the texts that are left name one file if two of all do.
use Rattle.std.proofs.Common.{◌≡◌, drop}
use Rattle.launch_options.specs.Given.{behind}
use Rattle.launch_options.specs.ReportTexts.{names_one_twice}
use Rattle.launch_options.proofs.reports.names_one_twice.Given as goal

abbrev pub invariant-loop-index : goal.invariant-loop-index
invariant-loop-index l = names_one_twice (behind (drop l.index l.texts)) ≡ names_one_twice (behind l.texts)

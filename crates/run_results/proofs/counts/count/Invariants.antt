-- The counts of the nodes so far.
use Rattle.std.proofs.Common.{◌≡◌}
use Rattle.run_results.specs.Counts.{counts_below}
use Rattle.descriptor.specs.Kinds.{is_container, is_test}
use Rattle.run_results.proofs.counts.count.Given as goal

abbrev pub invariant-loop-index : goal.invariant-loop-index
invariant-loop-index l = (l.containers ≡ counts_below is_container l.outline l.told l.index) × (l.tests ≡ counts_below is_test l.outline l.told l.index)

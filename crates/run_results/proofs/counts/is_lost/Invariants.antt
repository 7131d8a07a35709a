-- What holds of the node holds of the one that is looked at.
use Rattle.std.proofs.Common.{◌≡◌, ◌<◌, length}
use Rattle.run_results.specs.Counts.{is_lost}
use Rattle.run_results.proofs.counts.is_lost.Given as goal

abbrev pub invariant-loop-current : goal.invariant-loop-current
invariant-loop-current l = (l.current < length l.outline) × (is_lost l.outline l.told l.fn.node ≡ is_lost l.outline l.told l.current)

abbrev pub decreases-loop-current : goal.decreases-loop-current
decreases-loop-current l = l.current

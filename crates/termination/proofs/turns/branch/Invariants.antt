-- The node that the search has come to is at or above the first one, and not at or above the other.
use Rattle.std.proofs.Common.{◌<◌}
use Rattle.descriptor.specs.Nodes.{size}
use Rattle.resource_locks.specs.Declarations.{AtOrBelow}
use Rattle.termination.proofs.turns.branch.Given as goal

abbrev pub invariant-loop-parent : goal.invariant-loop-parent
invariant-loop-parent l = (l.current < size l.tree) × AtOrBelow l.tree l.current l.fn.one × (AtOrBelow l.tree l.current l.other → ⊥)

abbrev pub decreases-loop-parent : goal.decreases-loop-parent
decreases-loop-parent l = l.current

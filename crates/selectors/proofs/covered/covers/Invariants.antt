-- The node is covered where the node that the walk has come to is.
use Rattle.std.proofs.Common.{◌≡◌, ◌<◌}
use Rattle.descriptor.specs.Nodes.{size}
use Rattle.selectors.specs.Names.{covers}
use Rattle.selectors.proofs.covered.covers.Given as goal

abbrev pub invariant-loop-parent : goal.invariant-loop-parent
invariant-loop-parent l = (l.current < size l.tree) × (covers l.tree l.selector l.fn.node ≡ covers l.tree l.selector l.current)

abbrev pub decreases-loop-parent : goal.decreases-loop-parent
decreases-loop-parent l = l.current

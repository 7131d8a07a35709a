-- How far the search up the parents has come: what lies below the ancestor stays so on the way.
use Rattle.std.proofs.Common.{◌<◌, ◌≤◌, ◌↔◌}
use Rattle.descriptor.specs.Nodes.{size, Below}
use Rattle.descriptor.proofs.tree.Tree.below.Given as goal

abbrev pub invariant-loop-parent : goal.invariant-loop-parent
invariant-loop-parent l = (l.current < size l.self) × (l.current ≤ l.fn.node) × (Below l.self l.ancestor l.fn.node ↔ Below l.self l.ancestor l.current)

abbrev pub decreases-loop-parent : goal.decreases-loop-parent
decreases-loop-parent l = l.current

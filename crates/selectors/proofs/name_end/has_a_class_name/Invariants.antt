-- The node has a class name where the node that the walk has come to has one.
use Rattle.std.proofs.Common.{◌≡◌, ◌<◌}
use Rattle.std.specs.Option.{is_some}
use Rattle.descriptor.specs.Nodes.{size}
use Rattle.selectors.specs.ClassNames.{class_name}
use Rattle.selectors.proofs.name_end.has_a_class_name.Given as goal

abbrev pub invariant-loop-parent : goal.invariant-loop-parent
invariant-loop-parent l = (l.current < size l.tree) × (is_some (class_name l.tree l.fn.node) ≡ is_some (class_name l.tree l.current))

abbrev pub decreases-loop-parent : goal.decreases-loop-parent
decreases-loop-parent l = l.current

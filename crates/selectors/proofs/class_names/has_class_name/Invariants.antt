-- What is left of the name is told of the node that the walk has come to.
use Rattle.std.proofs.Common.{◌≡◌, ◌<◌}
use Rattle.descriptor.specs.Nodes.{size}
use Rattle.selectors.specs.ClassNames.{class_name, is_text}
use Rattle.selectors.proofs.class_names.has_class_name.Given as goal

abbrev pub invariant-loop-parent : goal.invariant-loop-parent
invariant-loop-parent l = (l.current < size l.tree) × (is_text (class_name l.tree l.fn.node) l.name ≡ is_text (class_name l.tree l.current) l.left)

abbrev pub decreases-loop-parent : goal.decreases-loop-parent
decreases-loop-parent l = l.current

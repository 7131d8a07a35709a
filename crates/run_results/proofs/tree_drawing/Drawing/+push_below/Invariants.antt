-- Numbers grow from parent to child; with what the siblings that are left give, the text is whole.
use Rattle.std.proofs.Common.{◌-◌, ◌++◌, length, string_bytes}
use Rattle.descriptor.specs.Nodes.{size}
use Rattle.run_results.specs.Inside.Drawings.{drawn_by}
use Rattle.run_results.proofs.Siblings.{Grows}
use Rattle.run_results.proofs.tree_drawing.Drawing.+push_below.Given as goal

abbrev pub decreases-push_below : goal.decreases-push_below
decreases-push_below l = size l.self.now.tree.now - l.node

abbrev pub invariant-loop-child : goal.invariant-loop-child
invariant-loop-child l = Grows (drawn_by l.self) (l.above ++ l.own) l.fn.node (string_bytes l.fn.text) (string_bytes l.text) l.left

abbrev pub decreases-loop-child : goal.decreases-loop-child
decreases-loop-child l = length l.left

-- The children so far that have lines.
use Rattle.std.proofs.Common.{◌≡◌, take}
use Rattle.std.specs.List.{filter}
use Rattle.run_results.specs.Inside.Drawings.{drawn_by}
use Rattle.run_results.specs.Told.{has_line}
use Rattle.run_results.proofs.tree_drawing.Drawing.children.Given as goal

abbrev pub invariant-loop-child : goal.invariant-loop-child
invariant-loop-child l = l.drawn.items ≡ filter (λ c. has_line ((drawn_by l.self).told c)) (take l.child-index l.children)

-- Each node from the number on has marked its parent.
use Rattle.std.proofs.Common.{ℕ, ◌<◌, ◌≤◌, false, get_or}
use Rattle.descriptor.specs.Nodes.{size}
use Rattle.selectors.proofs.Marks.{AreMarks}
use Rattle.selectors.proofs.kept.kept.Given as goal

abbrev pub invariant-loop-number : goal.invariant-loop-number
invariant-loop-number l = (0 < l.number) × (l.number ≤ size l.tree) × AreMarks l.tree (λ (m : ℕ). get_or l.fn.taken.items m false) l.marks.items l.number

abbrev pub decreases-loop-number : goal.decreases-loop-number
decreases-loop-number l = l.number

-- What the turns say of the next child, and that a counter has a place for one more.
use Rattle.std.proofs.Common.{◌≡◌, ◌∙◌, ◌<◌, ◌+◌, ℕ, suc, List, length, get_or, None, slice_index_or, Fits, w64, ap, arith}
use Rattle.std.proofs.lemmas.List.{get_or_default}
use Rattle.descriptor.specs.Nodes.{size, IsChild}
use Rattle.resource_locks.specs.Plans.{PlanParts}
use Rattle.scheduling.specs.declared.turns.Turns.{Turns}
use Rattle.scheduling.specs.Choices.{admit_next, admit_from, first_from, in_batch}
use Rattle.scheduling.specs.LinkLists.{AreTurns}

pub after_child : (p : PlanParts) (t : Turns) (n c : ℕ) → AreTurns p t → IsChild p.tree n c → admit_next (slice_index_or t.batch.next.items c None) ≡ admit_from p n (suc c)
after_child p t n c are child = ap admit_next (are.batch.next c child.above_zero child.inside) ∙ ap (λ (m : ℕ). admit_next (first_from (in_batch p m) (suc c) (size p.tree))) child.parent

pub one_more_fits : (l : List ℕ) (i f v : ℕ) → i ≡ f → f < length l → get_or l f 0 < 65535 → v ≡ get_or l i v → Fits w64 (v + 1)
one_more_fits l i f v same inside few is =
    let e : v ≡ get_or l f 0 = is ∙ ap (λ (j : ℕ). get_or l j v) same ∙ get_or_default l f v 0 inside in
    omega (arith, e, few)

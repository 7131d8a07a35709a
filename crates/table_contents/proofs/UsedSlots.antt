-- The jobs in slots that have answered: those of a row with one slot more, and which slot each is of.
use Rattle.std.proofs.Common.{◌≡◌, ◌⊎◌, inl, inr, ℕ, zero, suc, ◌+◌, ◌<◌, ◌≤◌, List, [], ◌∷◌, ◌++◌, length, Option, Some, None, slice_get, sym, refl, ap, ◌∙◌, subst, append_assoc, arith}
use Rattle.std.proofs.lemmas.List.{append-nil, length-append}
use Rattle.std.proofs.lemmas.Option.{none-some, same_Some}
use mathlib.Core.Option.{some, some-injective, some-ne-none}
use lib.ListN.{get_elem?, take}
use Rattle.resource_locks.specs.Plans.{PlanParts}
use Rattle.table_rule.specs.declared.view.Slot.{Slot}
use Rattle.table_rule.specs.Slots.{job_at, used_in}
use Rattle.table_contents.specs.Remains.{used_at, used_from, with_number}
use Rattle.table_contents.proofs.Filled.{one_taken, so_many}

-- What stands in lists that are joined.
split_at : {A : Type 0} (l r : List A) (i : ℕ) (x : A) → slice_get (l ++ r) i ≡ Some x → (slice_get l i ≡ Some x) ⊎ ((j : ℕ) × (slice_get r j ≡ Some x))
split_at [] r i x q = inr (i, q)
split_at (y ∷ l) r zero x q = inl q
split_at (y ∷ l) r (suc i) x q = split_at l r i x q

behind : {A : Type 0} (l r : List A) (j : ℕ) (x : A) → slice_get r j ≡ Some x → slice_get (l ++ r) (length l + j) ≡ Some x
behind [] r j x q = subst (λ (n : ℕ). slice_get r n ≡ Some x) (let e : j ≡ 0 + j = omega arith in e) q
behind (y ∷ l) r j x q = subst (λ (n : ℕ). slice_get (y ∷ (l ++ r)) n ≡ Some x) (let e : suc (length l + j) ≡ suc (length l) + j = omega arith in e) (behind l r j x q)

module _ {B : Type 0} where
  used_more : (p : PlanParts) (k : ℕ) (slots : List (Slot B)) (slot : Slot B) → used_from p k (slots ++ slot ∷ []) ≡ used_from p k slots ++ used_at (job_at p (k + length slots)) slot
  used_more p k [] slot = append-nil (used_at (job_at p k) slot) ∙ ap (λ (i : ℕ). used_at (job_at p i) slot) (let e : k ≡ k + 0 = omega arith in e)
  used_more p k (x ∷ slots) slot =
      ap (λ l. used_at (job_at p k) x ++ l) (used_more p (suc k) slots slot ∙ ap (λ (i : ℕ). used_from p (suc k) slots ++ used_at (job_at p i) slot) (let e : suc k + length slots ≡ k + suc (length slots) = omega arith in e))
      ∙ sym (append_assoc (used_at (job_at p k) x) (used_from p (suc k) slots) (used_at (job_at p (k + suc (length slots))) slot))

  -- with one more slot taken out of a row
  pub used_taken : (p : PlanParts) (slots : List (Slot B)) (i : ℕ) (slot : Slot B) → get_elem? slots i ≡ some slot → used_from p 0 (take (i + 1) slots) ≡ used_from p 0 (take i slots) ++ used_at (job_at p i) slot
  used_taken p slots i slot q =
      ap (λ (n : ℕ). used_from p 0 (take n slots)) (let e : i + 1 ≡ suc i = omega arith in e)
      ∙ (ap (used_from p 0) (one_taken slots i slot q) ∙ (used_more p 0 (take i slots) slot ∙ ap (λ (n : ℕ). used_from p 0 (take i slots) ++ used_at (job_at p n) slot) (let many = so_many slots i slot q in let e : 0 + length (take i slots) ≡ i = omega (arith, many) in e)))

  -- A job that has answered stands in one of the slots.
  pub record IsOfSlot (p : PlanParts) (k : ℕ) (slots : List (Slot B)) (number : ℕ) (job : B) : Type 0 where
    pub place : ℕ
    pub slot : Slot B
    pub inside : place < length slots
    pub stands : get_elem? slots place ≡ some slot
    pub is : job_at p (k + place) ≡ Some number
    pub has : used_in slot ≡ Some job

  first_of : (o : Option ℕ) (found : Option B) (i number : ℕ) (job : B) → slice_get (with_number o found) i ≡ Some (number, job) → (o ≡ Some number) × (found ≡ Some job)
  first_of None found i number job q = absurd (none-some _ q)
  first_of (Some other) None i number job q = absurd (none-some _ q)
  first_of (Some other) (Some first) zero number job q = (ap (λ (x : ℕ × B). Some x.0) (same_Some (other, first) (number, job) q), ap (λ (x : ℕ × B). Some x.1) (same_Some (other, first) (number, job) q))
  first_of (Some other) (Some first) (suc i) number job q = absurd (none-some _ q)

  pub used_of : (p : PlanParts) (k : ℕ) (slots : List (Slot B)) (i number : ℕ) (job : B) → slice_get (used_from p k slots) i ≡ Some (number, job) → IsOfSlot p k slots number job
  used_of p k [] i number job q = absurd (none-some _ q)
  used_of p k (slot ∷ slots) i number job q = elim (split_at (used_at (job_at p k) slot) (used_from p (suc k) slots) i (number, job) q) [
    | inl here ↦ (let x = first_of (job_at p k) (used_in slot) i number job here in
        record { place = 0; slot = slot; inside = omega arith; stands = refl; is = ap (job_at p) (let e : k + 0 ≡ k = omega arith in e) ∙ x.0; has = x.1 })
    | inr there ↦ (let x = used_of p (suc k) slots there.0 number job there.1 in let low = x.inside in
        record { place = suc x.place; slot = x.slot; inside = omega (arith, low); stands = x.stands; is = ap (job_at p) (let e : k + suc x.place ≡ suc k + x.place = omega arith in e) ∙ x.is; has = x.has })
  ]

  -- and the job of each slot that has answered is one of them
  pub used_there : (p : PlanParts) (k : ℕ) (slots : List (Slot B)) (j number : ℕ) (slot : Slot B) (job : B) → get_elem? slots j ≡ some slot → job_at p (k + j) ≡ Some number → used_in slot ≡ Some job → (i : ℕ) × (slice_get (used_from p k slots) i ≡ Some (number, job))
  used_there p k [] j number slot job q is has = absurd (some-ne-none slot (sym q))
  used_there p k (x ∷ slots) zero number slot job q is has =
      let here : job_at p k ≡ Some number = ap (job_at p) (let e : k ≡ k + 0 = omega arith in e) ∙ is in
      (0, (λ i. slice_get (with_number (here i) ((ap used_in (some-injective x slot q) ∙ has) i) ++ used_from p (suc k) slots) 0))
  used_there p k (x ∷ slots) (suc j) number slot job q is has =
      let rest = used_there p (suc k) slots j number slot job q (ap (job_at p) (let e : suc k + j ≡ k + suc j = omega arith in e) ∙ is) has in
      (length (used_at (job_at p k) x) + rest.0, behind (used_at (job_at p k) x) (used_from p (suc k) slots) rest.0 (number, job) rest.1)

  -- there are no more of them than slots
  one_at_most : (o : Option ℕ) (found : Option B) → length (with_number o found) ≤ 1
  one_at_most None found = omega arith
  one_at_most (Some number) None = omega arith
  one_at_most (Some number) (Some job) = omega arith

  pub used_few : (p : PlanParts) (k : ℕ) (slots : List (Slot B)) → length (used_from p k slots) ≤ length slots
  used_few p k [] = omega arith
  used_few p k (slot ∷ slots) =
      let here = one_at_most (job_at p k) (used_in slot) in
      let rest = used_few p (suc k) slots in
      let both = length-append (used_at (job_at p k) slot) (used_from p (suc k) slots) in
      omega (arith, here, rest, both)

-- A node and what lies below it, step by step.
use Rattle.std.proofs.Common.{◌≡◌, ℕ, zero, suc, ◌<◌, Bool, true, false, eqb, refl, sym, ap, ◌∙◌, arith, inl, inr, subst}
use Rattle.std.proofs.lemmas.Bool.Decides.{Decides-eqb}
use Rattle.std.specs.Prelude.{◌||◌}
use Rattle.std.specs.List.{list_any}
use Rattle.descriptor.specs.Nodes.{Nodes, IsTree, IsChild, Below, child, under, size, parent_of}
use Rattle.selectors.specs.Lineages.{lineage, is_at_or_below, AtOrBelow}
use Rattle.selectors.proofs.Lineage.{lineage_up}
use Rattle.selectors.proofs.Truths.{or_left, or_right, or_cases}

pub at_or_below_child : (t : Nodes) (a p n : ℕ) → AtOrBelow t a p → IsChild t p n → AtOrBelow t a n
at_or_below_child t a p n (inl same) e = inr (child (record { above_zero = e.above_zero; inside = e.inside; parent = e.parent ∙ same }))
at_or_below_child t a p n (inr below) e = inr (under below e)

child_above : (t : Nodes) (a c n : ℕ) → IsChild t a c → Below t c n → Below t a n
child_above t a c n e (child d) = under (child e) d
child_above t a c n e (under b d) = under (child_above t a c _ e b) d

pub child_at_or_above : (t : Nodes) (a c n : ℕ) → IsChild t a c → AtOrBelow t c n → AtOrBelow t a n
child_at_or_above t a c n e (inl same) = inr (subst (Below t a) (sym same) (child e))
child_at_or_above t a c n e (inr below) = inr (child_above t a c n e below)

-- what lies below a node is at or below one of its children
pub first_step : (t : Nodes) (a n : ℕ) → Below t a n → (c : ℕ) × IsChild t a c × AtOrBelow t c n
first_step t a n (child e) = (n, e, inl refl)
first_step t a n (under b e) = let first = first_step t a _ b in (first.0, first.1, at_or_below_child t first.0 _ n first.2 e)

module _ (t : Nodes) (tree : IsTree t) where
  pub parent_inside : (p n : ℕ) → IsChild t p n → p < size t
  parent_inside p n e = let less : parent_of t n < n = tree.up n e.above_zero e.inside in omega (arith, e.parent, e.inside)

  any_up : (q : ℕ → Bool) (n : ℕ) → 0 < n → n < size t → list_any q (lineage t n) ≡ (q n || list_any q (lineage t (parent_of t n)))
  any_up q n above inside = ap (list_any q) (lineage_up t tree n above inside)

  any_itself : (q : ℕ → Bool) (a : ℕ) → a < size t → q a ≡ true → list_any q (lineage t a) ≡ true
  any_itself q zero inside here = or_left (q 0) false here
  any_itself q (suc a) inside here = any_up q (suc a) (omega arith) inside ∙ or_left (q (suc a)) (list_any q (lineage t (parent_of t (suc a)))) here

  any_of_parent : (q : ℕ → Bool) (p n : ℕ) → IsChild t p n → list_any q (lineage t p) ≡ true → list_any q (lineage t n) ≡ true
  any_of_parent q p n e h = any_up q n e.above_zero e.inside ∙ or_right (q n) (list_any q (lineage t (parent_of t n))) (ap (λ m. list_any q (lineage t m)) e.parent ∙ h)

  any_of_above : (q : ℕ → Bool) (a n : ℕ) → q a ≡ true → Below t a n → list_any q (lineage t n) ≡ true
  any_of_above q a n here (child e) = any_of_parent q a n e (any_itself q a (parent_inside a n e) here)
  any_of_above q a n here (under b e) = any_of_parent q _ n e (any_of_above q a _ here b)

  -- what passes at or above a node is in its lineage
  pub lineage_has : (q : ℕ → Bool) (a n : ℕ) → n < size t → AtOrBelow t a n → q a ≡ true → list_any q (lineage t n) ≡ true
  lineage_has q a n inside (inl same) here = any_itself q n inside (ap q same ∙ here)
  lineage_has q a n inside (inr below) here = any_of_above q a n here below

  found_within : (q : ℕ → Bool) (k n : ℕ) → n < k → n < size t → list_any q (lineage t n) ≡ true → (a : ℕ) × (q a ≡ true) × AtOrBelow t a n
  found_within q zero n less inside h = absurd (omega arith)
  found_within q (suc k) zero less inside h = elim (or_cases (q 0) false h) [ inl here ↦ (0, here, inl refl) | inr never ↦ absurd (cc) ]
  found_within q (suc k) (suc n) less inside h =
      let up : parent_of t (suc n) < suc n = tree.up (suc n) (omega arith) inside in
      elim (or_cases (q (suc n)) (list_any q (lineage t (parent_of t (suc n)))) (sym (any_up q (suc n) (omega arith) inside) ∙ h)) [
        | inl here ↦ (suc n, here, inl refl)
        | inr above ↦
            let more : (a : ℕ) × (q a ≡ true) × AtOrBelow t a (parent_of t (suc n)) = found_within q k (parent_of t (suc n)) (omega arith) (omega arith) above in
            (more.0, more.1, at_or_below_child t more.0 (parent_of t (suc n)) (suc n) more.2 (record { above_zero = omega arith; inside = inside; parent = refl }))
      ]

  -- and nothing else is
  pub lineage_found : (q : ℕ → Bool) (n : ℕ) → n < size t → list_any q (lineage t n) ≡ true → (a : ℕ) × (q a ≡ true) × AtOrBelow t a n
  lineage_found q n inside h = found_within q (suc n) n (omega arith) inside h

  pub tells : (a n : ℕ) → n < size t → AtOrBelow t a n → is_at_or_below t a n ≡ true
  tells a n inside at = lineage_has (eqb a) a n inside at ((Decides-eqb a a).1 refl)

  pub told : (a n : ℕ) → n < size t → is_at_or_below t a n ≡ true → AtOrBelow t a n
  told a n inside h =
      let found : (b : ℕ) × (eqb a b ≡ true) × AtOrBelow t b n = lineage_found (eqb a) n inside h in
      subst (λ (b : ℕ). AtOrBelow t b n) (sym ((Decides-eqb a found.0).0 found.1)) found.2

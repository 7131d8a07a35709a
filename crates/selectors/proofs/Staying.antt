-- The nodes that stay are those at or above what is taken, where the spares of what is selected are taken with it.
use Rattle.std.proofs.Common.{◌≡◌, ℕ, zero, suc, ◌<◌, Bool, true, refl, sym, ap, ◌∙◌, arith, inl, inr, ◌⊎◌, ◌↔◌, subst, eqb}
use Rattle.std.proofs.lemmas.Bool.Decides.{Decides-eqb}
use Rattle.std.specs.Prelude.{◌||◌}
use Rattle.descriptor.specs.Nodes.{Nodes, IsTree, Below, child, under, size, parent_of, is_spare_at}
use Rattle.selectors.specs.Keeping.{has_selected, is_spare_of_selected, stays, HasSelected, IsSpareOfSelected, Stays, is_taken, is_above}
use Rattle.selectors.specs.Lineages.{AtOrBelow}
use Rattle.selectors.proofs.AtOrBelows.{parent_inside}
use Rattle.selectors.proofs.Marks.{and_both, and_parts, selected_told, selected_as, above_told, above_as}
use Rattle.selectors.proofs.Truths.{same_truth, or_left, or_right, or_cases}

-- what is below a node has its parent at or below it
parent_under : (t : Nodes) (a n : ℕ) → Below t a n → AtOrBelow t a (parent_of t n)
parent_under t a n (child e) = inl e.parent
parent_under t a n (under b e) = inr (subst (Below t a) (sym e.parent) b)

module _ (t : Nodes) (tree : IsTree t) (q : ℕ → Bool) where
  spare_told : (n : ℕ) → n < size t → is_spare_of_selected t q n ≡ true → IsSpareOfSelected t q n
  spare_told zero inside h = absurd (cc)
  spare_told (suc n) inside h =
      let both = and_parts (is_spare_at t (suc n)) (q (parent_of t (suc n))) h in
      (parent_of t (suc n), record { above_zero = omega arith; inside = inside; parent = refl }, both.0, both.1)

  spare_as : (n : ℕ) → IsSpareOfSelected t q n → is_spare_of_selected t q n ≡ true
  spare_as n (f, e, spare, passes) = and_both (is_spare_at t n) (q (parent_of t n)) spare (ap q e.parent ∙ passes)

  told : (n : ℕ) → n < size t → stays t q n ≡ true → Stays t q n
  told n inside h = elim (or_cases (eqb n 0) (has_selected t q n || is_spare_of_selected t q n) h) [
    | inl root ↦ inl ((Decides-eqb n 0).0 root)
    | inr some ↦ elim (or_cases (has_selected t q n) (is_spare_of_selected t q n) some) [
      | inl has ↦ inr (inl (selected_told t tree q n has))
      | inr spare ↦ inr (inr (spare_told n inside spare))
    ]
  ]

  shown : (n : ℕ) → Stays t q n → stays t q n ≡ true
  shown n (inl root) = or_left (eqb n 0) (has_selected t q n || is_spare_of_selected t q n) ((Decides-eqb n 0).1 root)
  shown n (inr (inl has)) =
      or_right (eqb n 0) (has_selected t q n || is_spare_of_selected t q n) (or_left (has_selected t q n) (is_spare_of_selected t q n) (selected_as t tree q n has))
  shown n (inr (inr spare)) =
      or_right (eqb n 0) (has_selected t q n || is_spare_of_selected t q n) (or_right (has_selected t q n) (is_spare_of_selected t q n) (spare_as n spare))

  pub stays_is : (n : ℕ) → n < size t → (stays t q n ≡ true) ↔ Stays t q n
  stays_is n inside = (told n inside, shown n)

  -- above a spare that is taken stands its factory, which is selected
  by_taken : (n : ℕ) → HasSelected t (is_taken t q) n → HasSelected t q n ⊎ IsSpareOfSelected t q n
  by_taken n (m, inside, taken, at) = elim (or_cases (q m) (is_spare_of_selected t q m) taken) [
    | inl here ↦ inl (m, inside, here, at)
    | inr spare ↦
        let of_factory : IsSpareOfSelected t q m = spare_told m inside spare in
        elim at [
          | inl same ↦ inr (subst (IsSpareOfSelected t q) same of_factory)
          | inr below ↦
              inl (of_factory.0, parent_inside t tree of_factory.0 m of_factory.1, of_factory.3, subst (AtOrBelow t n) of_factory.1.parent (parent_under t n m below))
        ]
  ]

  with_taken : (n : ℕ) → HasSelected t q n → HasSelected t (is_taken t q) n
  with_taken n (m, inside, here, at) = (m, inside, or_left (q m) (is_spare_of_selected t q m) here, at)

  itself : (n : ℕ) → n < size t → IsSpareOfSelected t q n → HasSelected t (is_taken t q) n
  itself n inside spare = (n, inside, or_right (q n) (is_spare_of_selected t q n) (spare_as n spare), inl refl)

  up : (n : ℕ) → n < size t → Stays t q n → is_above t (is_taken t q) n ≡ true
  up n inside (inl root) = above_as t tree (is_taken t q) n (inl root)
  up n inside (inr (inl has)) = above_as t tree (is_taken t q) n (inr (with_taken n has))
  up n inside (inr (inr spare)) = above_as t tree (is_taken t q) n (inr (itself n inside spare))

  down : (n : ℕ) → (n ≡ 0) ⊎ HasSelected t (is_taken t q) n → Stays t q n
  down n (inl root) = inl root
  down n (inr has) = inr (by_taken n has)

  pub stays_above : (n : ℕ) → n < size t → stays t q n ≡ is_above t (is_taken t q) n
  stays_above n inside =
      same_truth (stays t q n) (is_above t (is_taken t q) n) (λ h. up n inside (told n inside h)) (λ h. shown n (down n (above_told t tree (is_taken t q) n h)))

-- Steps over the items of a list, up to one that is refused.
use Rattle.std.proofs.Common.{◌≡◌, ◌∙◌, ℕ, suc, ◌<◌, ◌≤◌, ◌+◌, List, ◌∷◌, length, drop, get_or, ap, sym, subst, inl, inr, refl, arith}
use Rattle.std.proofs.Math.ListN.{drop_of_length-le}
use Rattle.std.proofs.Math.Seq.{drop-cons}
use Rattle.std.specs.List.{FoldsTo}
use Rattle.test_tree.specs.Lists.{StopsAt}

module _ {P A : Type 0} (R : P → A → P → Type 0) (xs : List A) (i : ℕ) (x : A) (inside : i < length xs) (is : x ≡ get_or xs i x) where
  -- what is left begins with this one
  begins : x ∷ drop (i + 1) xs ≡ drop i xs
  begins =
      let next : suc i ≡ i + 1 = omega arith in
      sym (drop-cons xs i x inside ∙ ap (λ (y : A). y ∷ drop (suc i) xs) (sym is) ∙ ap (λ n. x ∷ drop n xs) next)

  -- a step over this one, and steps over those behind it
  pub folds_on : (p q : P) → R p x q → (last : P) → FoldsTo R q (drop (i + 1) xs) last → FoldsTo R p (drop i xs) last
  folds_on p q step last rest = subst (λ (l : List A). FoldsTo R p l last) begins (q, step, rest)

  module _ (IsRefused : P → A → Type 0) where
    -- a fold that stops at one that is refused
    pub stops_on : (p q : P) → R p x q → (last : P) → StopsAt R IsRefused q (drop (i + 1) xs) last → StopsAt R IsRefused p (drop i xs) last
    stops_on p q step last rest = subst (λ (l : List A). StopsAt R IsRefused p l last) begins (inr (q, step, rest))

    -- this one is refused
    pub stops_here : (p q : P) → q ≡ p → IsRefused p x → StopsAt R IsRefused p (drop i xs) q
    stops_here p q same refused = subst (λ (l : List A). StopsAt R IsRefused p l q) begins (inl (same, refused))

-- no step, where none is left
pub folds_none : {P A : Type 0} (R : P → A → P → Type 0) (xs : List A) (i : ℕ) (p : P) → length xs ≤ i → FoldsTo R p (drop i xs) p
folds_none R xs i p over = subst (λ (l : List _). FoldsTo R p l p) (sym (drop_of_length-le xs over)) refl

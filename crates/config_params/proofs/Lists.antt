-- A list with a place for each number, and one more.
use Rattle.std.proofs.Common.{◌≡◌, ℕ, ◌+◌, List, [], ◌∷◌, ◌++◌, map, sym, ap, ◌∙◌, arith}
use Rattle.std.specs.List.{range_with_len}
use Rattle.std.proofs.lemmas.List.FromFn.{map-range_with_len_more}

pub one_more : {A : Type 0} (f : ℕ → A) (n : ℕ) (was now : List A) (x : A) → was ≡ map f (range_with_len 0 n) → x ≡ f n → now ≡ was ++ x ∷ [] → now ≡ map f (range_with_len 0 (n + 1))
one_more f n was now x before here grown =
    grown ∙ ap (λ ys. ys ++ x ∷ []) before ∙ ap (λ y. map f (range_with_len 0 n) ++ y ∷ []) here
    ∙ sym (map-range_with_len_more f 0 n n (omega arith))

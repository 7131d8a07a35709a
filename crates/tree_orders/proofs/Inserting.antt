-- How often a number stands in a list, where it stands, and the list with one number more.
use Rattle.std.proofs.Common.{◌≡◌, ℕ, zero, suc, ◌+◌, ◌<◌, ◌≤◌, eqb, List, [], ◌∷◌, length, get_or, refl, ap, ◌∙◌, arith, inl, inr}
use Rattle.std.specs.Prelude.{insert}
use Rattle.std.proofs.lemmas.Bool.{cases_eq, eq-eqb, ne_eqb, cond-true, cond-false}
use Rattle.descriptor.specs.Nodes.{bit}
use Rattle.tree_orders.specs.Orders.{place_in}

-- how often m stands in a list
abbrev pub times : ℕ → List ℕ → ℕ
times m [] = 0
times m (x ∷ xs) = bit (eqb x m) + times m xs

pub times_inserted : (m n i : ℕ) (xs : List ℕ) → times m (insert xs i n) ≡ bit (eqb n m) + times m xs
times_inserted m n zero xs = refl
times_inserted m n (suc i) [] = refl
times_inserted m n (suc i) (x ∷ xs) = let rest : times m (insert xs i n) ≡ bit (eqb n m) + times m xs = times_inserted m n i xs in omega arith

pub length_inserted : (n i : ℕ) (xs : List ℕ) → length (insert xs i n) ≡ suc (length xs)
length_inserted n zero xs = refl
length_inserted n (suc i) [] = refl
length_inserted n (suc i) (x ∷ xs) = ap suc (length_inserted n i xs)

-- where the first is m
pub place_first : (m x : ℕ) (xs : List ℕ) → x ≡ m → place_in (x ∷ xs) m ≡ 0
place_first m x xs e = cond-true (eqb x m) 0 (suc (place_in xs m)) (eq-eqb x m e)

pub place_later : (m x : ℕ) (xs : List ℕ) → (x ≡ m → ⊥) → place_in (x ∷ xs) m ≡ suc (place_in xs m)
place_later m x xs other = cond-false (eqb x m) 0 (suc (place_in xs m)) (ne_eqb x m other)

pub times_later : (m x : ℕ) (xs : List ℕ) → (x ≡ m → ⊥) → times m (x ∷ xs) ≡ times m xs
times_later m x xs other = let no : bit (eqb x m) ≡ 0 = ap bit (ne_eqb x m other) in omega arith

times_first : (m x : ℕ) (xs : List ℕ) → x ≡ m → times m (x ∷ xs) ≡ suc (times m xs)
times_first m x xs e = let yes : bit (eqb x m) ≡ 1 = ap bit (eq-eqb x m e) in omega arith

-- what stands in a list has a place in it
pub place_inside : (m : ℕ) (xs : List ℕ) → 0 < times m xs → place_in xs m < length xs
place_inside m [] some = absurd (omega arith)
place_inside m (x ∷ xs) some = elim (cases_eq x m) [
  | inl same ↦ let first : place_in (x ∷ xs) m ≡ 0 = place_first m x xs same in omega arith
  | inr other ↦
      let later : place_in (x ∷ xs) m ≡ suc (place_in xs m) = place_later m x xs other in
      let rest : times m (x ∷ xs) ≡ times m xs = times_later m x xs other in
      let inside : place_in xs m < length xs = place_inside m xs (omega arith) in
      omega arith
]

pub place_here : (m : ℕ) (xs : List ℕ) → 0 < times m xs → get_or xs (place_in xs m) 0 ≡ m
place_here m [] some = absurd (omega arith)
place_here m (x ∷ xs) some = elim (cases_eq x m) [
  | inl same ↦ ap (λ k. get_or (x ∷ xs) k 0) (place_first m x xs same) ∙ same
  | inr other ↦
      let rest : times m (x ∷ xs) ≡ times m xs = times_later m x xs other in
      ap (λ k. get_or (x ∷ xs) k 0) (place_later m x xs other) ∙ place_here m xs (omega arith)
]

-- what stands at a place stands in the list
pub found : (m k : ℕ) (xs : List ℕ) → k < length xs → get_or xs k 0 ≡ m → 0 < times m xs
found m k [] inside e = absurd (omega arith)
found m zero (x ∷ xs) inside e = let more : times m (x ∷ xs) ≡ suc (times m xs) = times_first m x xs e in omega arith
found m (suc k) (x ∷ xs) inside e = let rest : 0 < times m xs = found m k xs (omega arith) e in omega arith

-- and it is the only one, where it stands there once
pub place_only : (m k : ℕ) (xs : List ℕ) → times m xs ≤ 1 → k < length xs → get_or xs k 0 ≡ m → place_in xs m ≡ k
place_only m k [] one inside e = absurd (omega arith)
place_only m zero (x ∷ xs) one inside e = place_first m x xs e
place_only m (suc k) (x ∷ xs) one inside e =
    let rest : 0 < times m xs = found m k xs (omega arith) e in
    let other : x ≡ m → ⊥ = λ same. (let more : times m (x ∷ xs) ≡ suc (times m xs) = times_first m x xs same in omega arith) in
    let as_many : times m (x ∷ xs) ≡ times m xs = times_later m x xs other in
    place_later m x xs other ∙ ap suc (place_only m k xs (omega arith) (omega arith) e)

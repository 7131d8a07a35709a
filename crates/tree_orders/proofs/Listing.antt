-- The order so far has each node so far once.
use Rattle.std.proofs.Common.{◌≡◌, ℕ, zero, suc, ◌+◌, ◌-◌, ◌<◌, eqb, ltb, List, [], ◌∷◌, length, drop, get_or, refl, sym, ap, ◌∙◌, arith, inl, inr}
use Rattle.std.specs.Prelude.{insert}
use Rattle.std.proofs.lemmas.Bool.{cases_order, eq-eqb, ne_eqb, lt-ltb, le-ltb, cases_lt, cases_Bool, cond-true, cond-false}
use Rattle.descriptor.specs.Nodes.{Nodes, parent_of, is_spare_at, bit}
use Rattle.tree_orders.specs.Listed.{IsListed}
use Rattle.tree_orders.specs.Orders.{order_to, passed, place_behind, place_in, slot}
use Rattle.tree_orders.proofs.Inserting.{times, times_inserted, length_inserted, place_inside, place_here, place_only, found}

-- m is n or below it, or neither
bits : (m n : ℕ) → bit (eqb n m) + bit (ltb m n) ≡ bit (ltb m (suc n))
bits m n = elim (cases_order m n) [
  | inl same ↦
      let here : bit (eqb n m) ≡ 1 = ap bit (eq-eqb n m (sym same)) in
      let below : bit (ltb m n) ≡ 0 = ap bit (le-ltb m n (omega arith)) in
      let most : bit (ltb m (suc n)) ≡ 1 = ap bit (lt-ltb m (suc n) (omega arith)) in
      omega arith
  | inr (inl less) ↦
      let here : bit (eqb n m) ≡ 0 = ap bit (ne_eqb n m (λ e. omega arith)) in
      let below : bit (ltb m n) ≡ 1 = ap bit (lt-ltb m n less) in
      let most : bit (ltb m (suc n)) ≡ 1 = ap bit (lt-ltb m (suc n) (omega arith)) in
      omega arith
  | inr (inr more) ↦
      let here : bit (eqb n m) ≡ 0 = ap bit (ne_eqb n m (λ e. omega arith)) in
      let below : bit (ltb m n) ≡ 0 = ap bit (le-ltb m n (omega arith)) in
      let most : bit (ltb m (suc n)) ≡ 0 = ap bit (le-ltb m (suc n) (omega arith)) in
      omega arith
]

-- nothing is put before the first
slot_above : (t : Nodes) (drawn n : ℕ) (xs : List ℕ) → (i : ℕ) × (slot t drawn n xs ≡ suc i)
slot_above t drawn n xs = elim (cases_Bool (is_spare_at t n)) [
  | inl spare ↦ (place_in xs (n - 1), cond-true (is_spare_at t n) (suc (place_in xs (n - 1))) (place_behind t (parent_of t n) drawn xs) spare)
  | inr plain ↦ (place_in xs (parent_of t n) + passed t (parent_of t n) drawn (drop (suc (place_in xs (parent_of t n))) xs), cond-false (is_spare_at t n) (suc (place_in xs (n - 1))) (place_behind t (parent_of t n) drawn xs) plain)
]

head_kept : (xs : List ℕ) (place i n : ℕ) → place ≡ suc i → 0 < length xs → get_or (insert xs place n) 0 0 ≡ get_or xs 0 0
head_kept [] place i n is some = absurd (omega arith)
head_kept (x ∷ xs) place i n is some = ap (λ k. get_or (insert (x ∷ xs) k n) 0 0) is

module _ (t : Nodes) (drawn : ℕ → ℕ) where
  -- a node stands in the order to n once if its number is n at most, and else not
  pub times_to : (n m : ℕ) → times m (order_to t drawn n) ≡ bit (ltb m (suc n))
  times_to zero m =
      let none : bit (ltb m 0) ≡ 0 = ap bit (le-ltb m 0 (omega arith)) in
      let one : bit (eqb 0 m) + bit (ltb m 0) ≡ bit (ltb m (suc 0)) = bits m 0 in
      omega arith
  times_to (suc n) m =
      times_inserted m (suc n) (slot t (drawn (suc n)) (suc n) (order_to t drawn n)) (order_to t drawn n)
      ∙ ap (λ k. bit (eqb (suc n) m) + k) (times_to n m) ∙ bits m (suc n)

  pub length_to : (n : ℕ) → length (order_to t drawn n) ≡ suc n
  length_to zero = refl
  length_to (suc n) = length_inserted (suc n) (slot t (drawn (suc n)) (suc n) (order_to t drawn n)) (order_to t drawn n) ∙ ap suc (length_to n)

  stands : (n m : ℕ) → m < suc n → times m (order_to t drawn n) ≡ 1
  stands n m low = times_to n m ∙ ap bit (lt-ltb m (suc n) low)

  pub some_times : (n m : ℕ) → m < suc n → 0 < times m (order_to t drawn n)
  some_times n m low = let one : times m (order_to t drawn n) ≡ 1 = stands n m low in omega arith

  -- a node that stands there is one of the first
  low_enough : (n m : ℕ) → 0 < times m (order_to t drawn n) → m < suc n
  low_enough n m some = elim (cases_lt m (suc n)) [
    | inl low ↦ low
    | inr high ↦ absurd (let none : times m (order_to t drawn n) ≡ 0 = times_to n m ∙ ap bit (le-ltb m (suc n) high) in omega arith)
  ]

  -- the plan is first
  first_to : (n : ℕ) → get_or (order_to t drawn n) 0 0 ≡ 0
  first_to zero = refl
  first_to (suc n) =
      let at = slot_above t (drawn (suc n)) (suc n) (order_to t drawn n) in
      head_kept (order_to t drawn n) (slot t (drawn (suc n)) (suc n) (order_to t drawn n)) at.0 (suc n) at.1 (let len : length (order_to t drawn n) ≡ suc n = length_to n in omega arith) ∙ first_to n

  pub listed_to : (n : ℕ) → IsListed (order_to t drawn n) (suc n)
  listed_to n = record {
    counted = length_to n;
    first = first_to n;
    inside = λ m low. (let at : place_in (order_to t drawn n) m < length (order_to t drawn n) = place_inside m (order_to t drawn n) (some_times n m low) in omega (arith, at, length_to n));
    here = λ m low. place_here m (order_to t drawn n) (some_times n m low);
    low = λ k less. low_enough n (get_or (order_to t drawn n) k 0) (found (get_or (order_to t drawn n) k 0) k (order_to t drawn n) (omega (arith, less, length_to n)) refl);
    once = λ k less. (
        let low : get_or (order_to t drawn n) k 0 < suc n = low_enough n (get_or (order_to t drawn n) k 0) (found (get_or (order_to t drawn n) k 0) k (order_to t drawn n) (omega (arith, less, length_to n)) refl) in
        let one : times (get_or (order_to t drawn n) k 0) (order_to t drawn n) ≡ 1 = stands n (get_or (order_to t drawn n) k 0) low in
        place_only (get_or (order_to t drawn n) k 0) k (order_to t drawn n) (omega arith) (omega (arith, less, length_to n)) refl);
  }

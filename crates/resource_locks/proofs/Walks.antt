-- What the walk down gives each node, and tables and tests of numbers.
use Rattle.std.proofs.Common.{◌≡◌, ℕ, zero, suc, ◌<◌, ◌≤◌, Bool, true, List, [], ◌∷◌, ◌++◌, length, get_or, inl, inr, refl, sym, ap, ◌∙◌, arith, length-append}
use Rattle.std.proofs.lemmas.Bool.{cases_eq, or_cases, or_left, or_right, false≢true}
use Rattle.std.proofs.lemmas.List.{get_or_append_left, get_or_past}
use Rattle.std.proofs.Math.Seq.{get_or-append_seam}
use Rattle.descriptor.specs.Nodes.{Nodes, size, parent_of}
use Rattle.resource_locks.specs.Held.{walk, carried, any_below, table}

-- the last element of a list with one more
pub last_is : {A : Type 0} (xs : List A) (y d : A) (n : ℕ) → length xs ≡ n → get_or (xs ++ y ∷ []) n d ≡ y
last_is xs y d n e = rw (sym e) (get_or-append_seam xs y [] d)

one_longer : {A : Type 0} (xs : List A) (y : A) (n : ℕ) → length xs ≡ n → length (xs ++ y ∷ []) ≡ suc n
one_longer xs y n e = let h = length-append xs (y ∷ []) in omega (arith, h, e)

pub walk_len : {A : Type 0} (t : Nodes) (step : ℕ → A → A) (start : A) (n : ℕ) → length (walk t step start n) ≡ n
walk_len t step start zero = refl
walk_len t step start (suc n) = one_longer (walk t step start n) (step n (get_or (walk t step start n) (parent_of t n) start)) n (walk_len t step start n)

pub walk_at : {A : Type 0} (t : Nodes) (step : ℕ → A → A) (start : A) (n k : ℕ) → k < n
    → get_or (walk t step start n) k start ≡ step k (get_or (walk t step start k) (parent_of t k) start)
walk_at t step start zero k lt = absurd (omega (arith, lt))
walk_at t step start (suc n) k lt =
    elim (cases_eq k n) [
      | inl e ↦ rw e (last_is (walk t step start n) (step n (get_or (walk t step start n) (parent_of t n) start)) start n (walk_len t step start n))
      | inr ne ↦ (let before : k < n = omega (arith, lt, ne) in
          let len : length (walk t step start n) ≡ n = walk_len t step start n in
          get_or_append_left (walk t step start n) (step n (get_or (walk t step start n) (parent_of t n) start) ∷ []) start k (omega (arith, before, len))
          ∙ walk_at t step start n k before)
    ]

-- what the walk has given a node stays
pub walk_stays : {A : Type 0} (t : Nodes) (step : ℕ → A → A) (start : A) (m n k : ℕ) → k < m → k < n → get_or (walk t step start m) k start ≡ get_or (walk t step start n) k start
walk_stays t step start m n k a b = walk_at t step start m k a ∙ sym (walk_at t step start n k b)

pub carried_root : {A : Type 0} (t : Nodes) (step : ℕ → A → A) (start : A) → 0 < size t → carried t step start 0 ≡ step 0 start
carried_root t step start pos = walk_at t step start (size t) 0 pos

pub carried_down : {A : Type 0} (t : Nodes) (step : ℕ → A → A) (start : A) (n : ℕ) → n < size t → parent_of t n < n → carried t step start n ≡ step n (carried t step start (parent_of t n))
carried_down t step start n inside up =
    walk_at t step start (size t) n inside ∙ ap (step n) (walk_stays t step start n (size t) (parent_of t n) up (omega (arith, up, inside)))

-- whatever was carried, a step gave it
pub carried_step : {A : Type 0} (t : Nodes) (step : ℕ → A → A) (start : A) (n : ℕ) → n < size t → (above : A) × (carried t step start n ≡ step n above)
carried_step t step start n inside = (get_or (walk t step start n) (parent_of t n) start, walk_at t step start (size t) n inside)

pub table_len : {A : Type 0} (f : ℕ → A) (n : ℕ) → length (table f n) ≡ n
table_len f zero = refl
table_len f (suc n) = one_longer (table f n) (f n) n (table_len f n)

pub table_at : {A : Type 0} (f : ℕ → A) (d : A) (n k : ℕ) → k < n → get_or (table f n) k d ≡ f k
table_at f d zero k lt = absurd (omega (arith, lt))
table_at f d (suc n) k lt =
    elim (cases_eq k n) [
      | inl e ↦ rw e (last_is (table f n) (f n) d n (table_len f n))
      | inr ne ↦ (let before : k < n = omega (arith, lt, ne) in
          let len : length (table f n) ≡ n = table_len f n in
          get_or_append_left (table f n) (f n ∷ []) d k (omega (arith, before, len)) ∙ table_at f d n k before)
    ]

pub table_past : {A : Type 0} (f : ℕ → A) (d : A) (n k : ℕ) → n ≤ k → get_or (table f n) k d ≡ d
table_past f d n k le = let len : length (table f n) ≡ n = table_len f n in get_or_past (table f n) k d (omega (arith, le, len))

pub below_use : (q : ℕ → Bool) (n : ℕ) → any_below q n ≡ true → (k : ℕ) × ((k < n) × (q k ≡ true))
below_use q zero t = absurd (false≢true t)
below_use q (suc n) t =
    elim (or_cases (q n) (any_below q n) t) [
      | inl h ↦ (n, (omega arith, h))
      | inr h ↦ (let r = below_use q n h in let lt = r.1.0 in (r.0, (omega (arith, lt), r.1.1)))
    ]

pub below_from : (q : ℕ → Bool) (n k : ℕ) → k < n → q k ≡ true → any_below q n ≡ true
below_from q zero k lt t = absurd (omega (arith, lt))
below_from q (suc n) k lt t =
    elim (cases_eq k n) [
      | inl e ↦ or_left (q n) (any_below q n) (ap q (sym e) ∙ t)
      | inr ne ↦ or_right (q n) (any_below q n) (below_from q n k (omega (arith, lt, ne)) t)
    ]

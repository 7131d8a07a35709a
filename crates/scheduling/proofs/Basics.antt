-- Lists with one element changed, counts and sums with one term changed, the first number that passes, one event more.
use Rattle.std.proofs.Common.{◌≡◌, ◌≢◌, ℕ, zero, suc, ◌+◌, ◌-◌, ◌<◌, ◌≤◌, Bool, true, false, cond, ◌||◌, ◌==◌, List, [], ◌∷◌, ◌++◌, set, Some, None, slice_get, ◌⊎◌, inl, inr, refl, sym, ap, ◌∙◌, subst, arith}
use Rattle.std.proofs.lemmas.Option.{same_Some, none-some}
use Rattle.std.proofs.lemmas.Bool.{eq-eqb, ne_eqb, cases_eq, cond-true, cond-false}
use Rattle.descriptor.specs.Nodes.{bit, count_below}
use Rattle.plan_events.specs.declared.event.Event.{Event}
use Rattle.event_history.specs.Places.{has_event}
use Rattle.scheduling.specs.Inside.Stages.{Stage}
use Rattle.scheduling.specs.Choices.{find, first_from}
use Rattle.scheduling.specs.Inside.Invariant.{sum_below}

-- the stages, with that of node x changed
pub upd : (ℕ → Stage) → ℕ → Stage → ℕ → Stage
upd g x b m = cond (m == x) b (g m)

pub upd_same : (g : ℕ → Stage) (x : ℕ) (b : Stage) (m : ℕ) → m ≡ x → upd g x b m ≡ b
unfolding upd
upd_same g x b m e = cond-true (m == x) b (g m) (eq-eqb m x e)

pub upd_other : (g : ℕ → Stage) (x : ℕ) (b : Stage) (m : ℕ) → m ≢ x → upd g x b m ≡ g m
unfolding upd
upd_other g x b m e = cond-false (m == x) b (g m) (ne_eqb m x e)

-- a property of each node and its stage, where node x has a new stage
pub upd_all : (P : ℕ → Stage → Type 0) (g : ℕ → Stage) (x : ℕ) (b : Stage) (n : ℕ) → (n ≡ x → P n b) → (n ≢ x → P n (g n)) → P n (upd g x b n)
upd_all P g x b n here there =
    elim (cases_eq n x) [
      | inl e ↦ subst (λ (st : Stage). P n st) (sym (upd_same g x b n e)) (here e)
      | inr ne ↦ subst (λ (st : Stage). P n st) (sym (upd_other g x b n ne)) (there ne)
    ]

pub get_set : {X : Type 0} (l : List X) (i : ℕ) (x : X) (j : ℕ) (y : X) → slice_get (set l i x) j ≡ Some y → ((j ≡ i) × (y ≡ x)) ⊎ ((j ≢ i) × (slice_get l j ≡ Some y))
get_set [] i x j y q = absurd (none-some y q)
get_set (z ∷ l) zero x zero y q = inl (refl, sym (same_Some x y q))
get_set (z ∷ l) zero x (suc j) y q = inr ((λ h. omega (arith, h)), q)
get_set (z ∷ l) (suc i) x zero y q = inr ((λ h. omega (arith, h)), q)
get_set (z ∷ l) (suc i) x (suc j) y q =
    elim (get_set l i x j y q) [ inl a ↦ inl (ap suc a.0, a.1) | inr b ↦ inr ((λ h. b.0 (omega (arith, h))), b.1) ]

pub get_set_same : {X : Type 0} (l : List X) (i : ℕ) (x y : X) → slice_get l i ≡ Some y → slice_get (set l i x) i ≡ Some x
get_set_same [] i x y q = absurd (none-some y q)
get_set_same (z ∷ l) zero x y q = refl
get_set_same (z ∷ l) (suc i) x y q = get_set_same l i x y q

pub get_set_other : {X : Type 0} (l : List X) (i : ℕ) (x : X) (j : ℕ) → j ≢ i → slice_get (set l i x) j ≡ slice_get l j
get_set_other [] i x j ne = refl
get_set_other (z ∷ l) zero x zero ne = absurd (ne refl)
get_set_other (z ∷ l) zero x (suc j) ne = refl
get_set_other (z ∷ l) (suc i) x zero ne = refl
get_set_other (z ∷ l) (suc i) x (suc j) ne = get_set_other l i x j (λ h. ne (ap suc h))

-- a list with what it has
pub set_get : {X : Type 0} (l : List X) (i : ℕ) (x : X) → slice_get l i ≡ Some x → set l i x ≡ l
set_get [] i x q = refl
set_get (z ∷ l) zero x q = ap (λ y. y ∷ l) (sym (same_Some z x q))
set_get (z ∷ l) (suc i) x q = ap (λ m. z ∷ m) (set_get l i x q)

pub set_twice : {X : Type 0} (l : List X) (i : ℕ) (x y : X) → set (set l i x) i y ≡ set l i y
set_twice [] i x y = refl
set_twice (z ∷ l) zero x y = refl
set_twice (z ∷ l) (suc i) x y = ap (λ m. z ∷ m) (set_twice l i x y)

-- counts
pub count_same : (q r : ℕ → Bool) (n : ℕ) → ((k : ℕ) → k < n → q k ≡ r k) → count_below q n ≡ count_below r n
count_same q r zero same = refl
count_same q r (suc n) same = (let a : bit (q n) ≡ bit (r n) = ap bit (same n (omega arith)) in let b = count_same q r n (λ k lt. same k (omega (arith, lt))) in omega (arith, a, b))

-- two tests that differ at x alone
pub count_change : (q r : ℕ → Bool) (x n : ℕ) → x < n → ((k : ℕ) → k ≢ x → q k ≡ r k) → count_below q n + bit (r x) ≡ count_below r n + bit (q x)
count_change q r x zero lt same = absurd (omega (arith, lt))
count_change q r x (suc n) lt same =
    elim (cases_eq x n) [
      | inl e ↦ (let rest : count_below q n ≡ count_below r n = count_same q r n (λ k l. same k (λ h. omega (arith, h, l, e))) in
          let a : bit (r x) ≡ bit (r n) = ap (λ (k : ℕ). bit (r k)) e in
          let b : bit (q x) ≡ bit (q n) = ap (λ (k : ℕ). bit (q k)) e in
          omega (arith, rest, a, b))
      | inr ne ↦ (let ih : count_below q n + bit (r x) ≡ count_below r n + bit (q x) = count_change q r x n (omega (arith, lt, ne)) same in
          let a : bit (q n) ≡ bit (r n) = ap bit (same n (λ h. ne (sym h))) in
          omega (arith, ih, a))
    ]

pub count_none : (q : ℕ → Bool) (n : ℕ) → count_below q n ≡ 0 → (k : ℕ) → k < n → q k ≡ false
count_none q zero z k lt = absurd (omega (arith, lt))
count_none q (suc n) z k lt =
    elim (cases_eq k n) [
      | inl e ↦ ap q e ∙ bit_zero (q n) (omega (arith, z))
      | inr ne ↦ count_none q n (omega (arith, z)) k (omega (arith, lt, ne))
    ]
  where
    bit_zero : (b : Bool) → bit b ≡ 0 → b ≡ false
    bit_zero true h = absurd (omega (arith, h))
    bit_zero false h = refl

pub count_some : (q : ℕ → Bool) (n k : ℕ) → k < n → q k ≡ true → 1 ≤ count_below q n
count_some q zero k lt t = absurd (omega (arith, lt))
count_some q (suc n) k lt t =
    elim (cases_eq k n) [
      | inl e ↦ (let a : bit (q n) ≡ 1 = ap bit (ap q (sym e) ∙ t) in omega (arith, a))
      | inr ne ↦ (let a = count_some q n k (omega (arith, lt, ne)) t in omega (arith, a))
    ]

-- sums
pub sum_same : (q r : ℕ → ℕ) (n : ℕ) → ((k : ℕ) → k < n → q k ≡ r k) → sum_below q n ≡ sum_below r n
sum_same q r zero same = refl
sum_same q r (suc n) same = (let a = same n (omega arith) in let b = sum_same q r n (λ k lt. same k (omega (arith, lt))) in omega (arith, a, b))

pub sum_change : (q r : ℕ → ℕ) (x n : ℕ) → x < n → ((k : ℕ) → k ≢ x → q k ≡ r k) → sum_below q n + r x ≡ sum_below r n + q x
sum_change q r x zero lt same = absurd (omega (arith, lt))
sum_change q r x (suc n) lt same =
    elim (cases_eq x n) [
      | inl e ↦ (let rest : sum_below q n ≡ sum_below r n = sum_same q r n (λ k l. same k (λ h. omega (arith, h, l, e))) in
          let a : r x ≡ r n = ap r e in
          let b : q x ≡ q n = ap q e in
          omega (arith, rest, a, b))
      | inr ne ↦ (let ih : sum_below q n + r x ≡ sum_below r n + q x = sum_change q r x n (omega (arith, lt, ne)) same in
          let a : q n ≡ r n = same n (λ h. ne (sym h)) in
          omega (arith, ih, a))
    ]

pub sum_one : (f : ℕ → ℕ) (a n : ℕ) → a < n → f a ≤ sum_below f n
sum_one f a zero lt = absurd (omega (arith, lt))
sum_one f a (suc n) lt =
    elim (cases_eq a n) [
      | inl e ↦ (let q : f a ≡ f n = ap f e in omega (arith, q))
      | inr ne ↦ (let q = sum_one f a n (omega (arith, lt, ne)) in omega (arith, q))
    ]

pub sum_two : (f : ℕ → ℕ) (a b n : ℕ) → a < n → b < n → a ≢ b → f a + f b ≤ sum_below f n
sum_two f a b zero la lb ne = absurd (omega (arith, la))
sum_two f a b (suc n) la lb ne =
    elim (cases_eq a n) [
      | inl e ↦ (let q : f a ≡ f n = ap f e in let r = sum_one f b n (omega (arith, lb, e, ne)) in omega (arith, q, r))
      | inr na ↦ elim (cases_eq b n) [
        | inl e ↦ (let q : f b ≡ f n = ap f e in let r = sum_one f a n (omega (arith, la, na)) in omega (arith, q, r))
        | inr nb ↦ (let r = sum_two f a b n (omega (arith, la, na)) (omega (arith, lb, nb)) ne in omega (arith, r))
      ]
    ]

-- the first number that passes
pub record IsFirst (q : ℕ → Bool) (from size c : ℕ) : Type 0 where
  pub passes : q c ≡ true
  pub low : from ≤ c
  pub high : c < size
  pub none_before : (x : ℕ) → from ≤ x → x < c → q x ≡ false

find_some : (q : ℕ → Bool) (from many c : ℕ) → find q from many ≡ Some c → IsFirst q from (from + many) c
find_some q from zero c e = absurd (none-some c e)
find_some q from (suc many) c e = go (q from) refl (find_some q (suc from) many c) e
  where
    go : (b : Bool) → q from ≡ b → (find q (suc from) many ≡ Some c → IsFirst q (suc from) (suc from + many) c) → cond b (Some from) (find q (suc from) many) ≡ Some c → IsFirst q from (from + suc many) c
    go true t ih e = (let s = same_Some from c e in record { passes = subst (λ (k : ℕ). q k ≡ true) s t; low = omega (arith, s); high = omega (arith, s); none_before = λ x l h. absurd (omega (arith, l, h, s)) })
    go false f ih e =
        let r = ih e in
        let low : suc from ≤ c = r.low in
        let high : c < suc from + many = r.high in
        record { passes = r.passes; low = omega (arith, low); high = omega (arith, high); none_before = λ x l h. elim (cases_eq x from) [ inl s ↦ ap q s ∙ f | inr ne ↦ r.none_before x (omega (arith, l, ne)) h ] }

pub first_some : (q : ℕ → Bool) (from size c : ℕ) → first_from q from size ≡ Some c → IsFirst q from size c
first_some q from size c e =
    let r = find_some q from (size - from) c e in
    let low : from ≤ c = r.low in
    let high : c < from + (size - from) = r.high in
    record { passes = r.passes; low = low; high = omega (arith, low, high); none_before = r.none_before }

find_none : (q : ℕ → Bool) (from many : ℕ) → find q from many ≡ None → (x : ℕ) → from ≤ x → x < from + many → q x ≡ false
find_none q from zero e x l h = absurd (omega (arith, l, h))
find_none q from (suc many) e x l h = go (q from) refl (find_none q (suc from) many) e
  where
    go : (b : Bool) → q from ≡ b → (find q (suc from) many ≡ None → (x : ℕ) → suc from ≤ x → x < suc from + many → q x ≡ false) → cond b (Some from) (find q (suc from) many) ≡ None → q x ≡ false
    go true t ih e = absurd (none-some from (sym e))
    go false f ih e = elim (cases_eq x from) [ inl s ↦ ap q s ∙ f | inr ne ↦ ih e x (omega (arith, l, ne)) (omega (arith, h)) ]

pub first_none : (q : ℕ → Bool) (from size : ℕ) → first_from q from size ≡ None → (x : ℕ) → from ≤ x → x < size → q x ≡ false
first_none q from size e x l h = find_none q from (size - from) e x l (omega (arith, l, h))

-- one event more
pub event_added : (q : Event → Bool) (h : List Event) (e : Event) → has_event q (h ++ e ∷ []) ≡ (has_event q h || q e)
event_added q [] e = or-false (q e)
  where
    or-false : (a : Bool) → (a || false) ≡ a
    or-false true = refl
    or-false false = refl
event_added q (x ∷ h) e = ap (λ (a : Bool). q x || a) (event_added q h e) ∙ regroup (q x) (has_event q h) (q e)
  where
    regroup : (a b c : Bool) → (a || (b || c)) ≡ ((a || b) || c)
    regroup true b c = refl
    regroup false b c = refl

or_no : (a b : Bool) → b ≡ false → (a || b) ≡ a
or_no true b q = refl
or_no false b q = q

pub event_same : (q : Event → Bool) (h : List Event) (e : Event) → q e ≡ false → has_event q (h ++ e ∷ []) ≡ has_event q h
event_same q h e f = event_added q h e ∙ or_no (has_event q h) (q e) f

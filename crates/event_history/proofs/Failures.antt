-- Failures counted: what a worker knows, and what one more event adds.
use Rattle.std.proofs.Common.{◌≡◌, ℕ, zero, suc, ◌+◌, ◌<◌, ◌≤◌, Bool, true, false, ◌&&◌, ◌||◌, ◌==◌, cond, List, [], ◌∷◌, ◌++◌, length, Some, slice_get, ◌⊎◌, inl, inr, refl, sym, ap, ◌∙◌, subst, arith}
use Rattle.std.proofs.lemmas.Bool.{both_ways, or_cases, or_left, or_right, and_parts, and_from, eqb-true, eq-eqb, false≢true, false_from_ne_true}
use Rattle.descriptor.specs.Nodes.{bit}
use Rattle.plan_events.specs.declared.event.Event.{Event}
use Rattle.event_history.specs.Places.{is_failure, has_event}
use Rattle.event_history.specs.Failures.{failures, has_worker, known, up_to}
use Rattle.event_history.specs.Inside.Failing.{followed, fails_last}

-- Truth values, and these as numbers.
pub and_false : (f : Bool) → (f && false) ≡ false
and_false true = refl
and_false false = refl

pub and_true : (f : Bool) → (f && true) ≡ f
and_true true = refl
and_true false = refl

pub bit_le : (a b : Bool) → (a ≡ true → b ≡ true) → bit a ≤ bit b
bit_le true b all = (let same : bit b ≡ 1 = ap bit (all refl) in omega (arith, same))
bit_le false b all = omega arith

-- two that exclude one another
both_bits : (f a b : Bool) → (a ≡ true → b ≡ false) → bit (f && (a || b)) ≡ bit (f && b) + bit (f && a)
both_bits false a b apart = refl
both_bits true true b apart = sym (ap (λ (x : Bool). bit x + 1) (apart refl))
both_bits true false b apart = omega arith

by_cases : (b : Bool) → (b ≡ true) ⊎ (b ≡ false)
by_cases true = inl refl
by_cases false = inr refl

-- An event more.
or_false : (a : Bool) → (a || false) ≡ a
or_false true = refl
or_false false = refl

regroup : (a b c : Bool) → (a || (b || c)) ≡ ((a || b) || c)
regroup true b c = refl
regroup false b c = refl

pub worker_added : (w : ℕ) (h : List Event) (e : Event) → has_worker w (h ++ e ∷ []) ≡ (has_worker w h || (e.worker == w))
worker_added w [] e = or_false (e.worker == w)
worker_added w (x ∷ h) e = ap (λ (a : Bool). (x.worker == w) || a) (worker_added w h e) ∙ regroup (x.worker == w) (has_worker w h) (e.worker == w)

-- of an event of this worker, and of one of another
own_added : (w : ℕ) (h : List Event) (e : Event) → (e.worker == w) ≡ true → has_worker w (h ++ e ∷ []) ≡ true
own_added w h e own = worker_added w h e ∙ or_right (has_worker w h) (e.worker == w) own

other_added : (w : ℕ) (h : List Event) (e : Event) → (e.worker == w) ≡ false → has_worker w (h ++ e ∷ []) ≡ has_worker w h
other_added w h e other = worker_added w h e ∙ ap (λ (a : Bool). has_worker w h || a) other ∙ or_false (has_worker w h)

-- there are no more failures than events
pub failures_few : (h : List Event) → failures h ≤ length h
failures_few [] = omega arith
failures_few (e ∷ h) = (let ih : failures h ≤ length h = failures_few h in let one = bit_one (is_failure e) in omega (arith, ih, one))
  where
    bit_one : (b : Bool) → bit b ≤ 1
    bit_one true = omega arith
    bit_one false = omega arith

pub failures_added : (h : List Event) (e : Event) → failures (h ++ e ∷ []) ≡ failures h + bit (is_failure e)
failures_added [] e = omega arith
failures_added (x ∷ h) e = (let ih : failures (h ++ e ∷ []) ≡ failures h + bit (is_failure e) = failures_added h e in omega (arith, ih))

pub last_own : (w : ℕ) (h : List Event) (e : Event) → (e.worker == w) ≡ true → fails_last w (h ++ e ∷ []) ≡ is_failure e
last_own w [] e own = ap (λ (a : Bool). is_failure e && a) own ∙ and_true (is_failure e)
last_own w (x ∷ h) e own = ap (λ (a : Bool). cond a (fails_last w (h ++ e ∷ [])) (is_failure x && (x.worker == w))) (own_added w h e own) ∙ last_own w h e own

pub last_other : (w : ℕ) (h : List Event) (e : Event) → (e.worker == w) ≡ false → fails_last w (h ++ e ∷ []) ≡ fails_last w h
last_other w [] e other = ap (λ (a : Bool). is_failure e && a) other ∙ and_false (is_failure e)
last_other w (x ∷ h) e other =
    ap (λ (a : Bool). cond a (fails_last w (h ++ e ∷ [])) (is_failure x && (x.worker == w))) (other_added w h e other)
    ∙ ap (λ (a : Bool). cond (has_worker w h) a (is_failure x && (x.worker == w))) (last_other w h e other)

-- without an event of the worker
pub none_last : (w : ℕ) (h : List Event) → has_worker w h ≡ false → fails_last w h ≡ false
none_last w [] none = refl
none_last w (x ∷ h) none =
    let rest : has_worker w h ≡ false = false_from_ne_true (has_worker w h) (λ t. both_ways (has_worker w (x ∷ h)) none (or_right (x.worker == w) (has_worker w h) t)) in
    let here : (x.worker == w) ≡ false = false_from_ne_true (x.worker == w) (λ t. both_ways (has_worker w (x ∷ h)) none (or_left (x.worker == w) (has_worker w h) t)) in
    ap (λ (a : Bool). cond a (fails_last w h) (is_failure x && (x.worker == w))) rest ∙ ap (λ (a : Bool). is_failure x && a) here ∙ and_false (is_failure x)

-- whose last event is a failure that nothing follows yet, now has one that follows it
turned : (a b : ℕ) → (a == b) ≡ (b == a)
turned a b = elim (by_cases (a == b)) [
  | inl t ↦ t ∙ sym (eq-eqb b a (sym (eqb-true a b t)))
  | inr f ↦ f ∙ sym (false_from_ne_true (b == a) (λ t. both_ways (a == b) f (eq-eqb a b (sym (eqb-true b a t)))))
]

swapped : (a b : Bool) → (a || b) ≡ (b || a)
swapped true true = refl
swapped true false = refl
swapped false true = refl
swapped false false = refl

module _ (x : Event) (h : List Event) (e : Event) (ih : followed (h ++ e ∷ []) ≡ followed h + bit (fails_last e.worker h)) where
  abbrev followed_by : Bool → Bool → Type 0
  followed_by now last = bit (is_failure x && now) + followed (h ++ e ∷ []) ≡ bit (is_failure x && has_worker x.worker h) + followed h + bit last

  one_more : (has_worker e.worker h ≡ true) ⊎ (has_worker e.worker h ≡ false) → followed ((x ∷ h) ++ e ∷ []) ≡ followed (x ∷ h) + bit (fails_last e.worker (x ∷ h))
  one_more (inl t) =
      let here : has_worker x.worker (h ++ e ∷ []) ≡ has_worker x.worker h = elim (by_cases (e.worker == x.worker)) [
        | inl same ↦ own_added x.worker h e same ∙ sym (subst (λ (k : ℕ). has_worker k h ≡ true) (eqb-true e.worker x.worker same) t)
        | inr other ↦ other_added x.worker h e other
      ] in
      let last : fails_last e.worker (x ∷ h) ≡ fails_last e.worker h = ap (λ (a : Bool). cond a (fails_last e.worker h) (is_failure x && (x.worker == e.worker))) t in
      subst (λ (l : Bool). followed_by (has_worker x.worker (h ++ e ∷ [])) l) (sym last) (subst (λ (n : Bool). followed_by n (fails_last e.worker h)) (sym here) (omega (arith, ih)))
  one_more (inr t) =
      let silent : bit (fails_last e.worker h) ≡ 0 = ap bit (none_last e.worker h t) in
      let last : fails_last e.worker (x ∷ h) ≡ (is_failure x && (e.worker == x.worker)) = ap (λ (a : Bool). cond a (fails_last e.worker h) (is_failure x && (x.worker == e.worker))) t ∙ ap (λ (a : Bool). is_failure x && a) (turned x.worker e.worker) in
      let here : has_worker x.worker (h ++ e ∷ []) ≡ ((e.worker == x.worker) || has_worker x.worker h) = worker_added x.worker h e ∙ swapped (has_worker x.worker h) (e.worker == x.worker) in
      let split : bit (is_failure x && ((e.worker == x.worker) || has_worker x.worker h)) ≡ bit (is_failure x && has_worker x.worker h) + bit (is_failure x && (e.worker == x.worker)) =
      both_bits (is_failure x) (e.worker == x.worker) (has_worker x.worker h) (λ same. subst (λ (k : ℕ). has_worker k h ≡ false) (eqb-true e.worker x.worker same) t) in
      subst (λ (l : Bool). followed_by (has_worker x.worker (h ++ e ∷ [])) l) (sym last) (subst (λ (n : Bool). followed_by n (is_failure x && (e.worker == x.worker))) (sym here) (omega (arith, ih, silent, split)))

pub followed_added : (h : List Event) (e : Event) → followed (h ++ e ∷ []) ≡ followed h + bit (fails_last e.worker h)
followed_added [] e = ap (λ (a : Bool). bit a + 0) (and_false (is_failure e))
followed_added (x ∷ h) e = one_more x h e (followed_added h e) (by_cases (has_worker e.worker h))

-- What a worker knows.
-- it knows of those that are followed, and of its own last event
pub known_is : (w : ℕ) (h : List Event) → known w h ≡ followed h + bit (fails_last w h)
known_is w [] = refl
known_is w (x ∷ h) =
    let ih : known w h ≡ followed h + bit (fails_last w h) = known_is w h in
    elim (by_cases (has_worker w h)) [
      | inl t ↦ (let here : ((x.worker == w) || has_worker x.worker h) ≡ has_worker x.worker h = mine t (by_cases (x.worker == w)) in
          let last : bit (fails_last w (x ∷ h)) ≡ bit (fails_last w h) = ap (λ (a : Bool). bit (cond a (fails_last w h) (is_failure x && (x.worker == w)))) t in
          let bits : bit (is_failure x && ((x.worker == w) || has_worker x.worker h)) ≡ bit (is_failure x && has_worker x.worker h) = ap (λ (a : Bool). bit (is_failure x && a)) here in
          omega (arith, ih, last, bits))
      | inr t ↦ (let silent : bit (fails_last w h) ≡ 0 = ap bit (none_last w h t) in
          let last : bit (fails_last w (x ∷ h)) ≡ bit (is_failure x && (x.worker == w)) = ap (λ (a : Bool). bit (cond a (fails_last w h) (is_failure x && (x.worker == w)))) t in
          let split = both_bits (is_failure x) (x.worker == w) (has_worker x.worker h) (λ same. subst (λ (k : ℕ). has_worker k h ≡ false) (sym (eqb-true x.worker w same)) t) in
          omega (arith, ih, last, silent, split))
    ]
  where
    mine : has_worker w h ≡ true → ((x.worker == w) ≡ true) ⊎ ((x.worker == w) ≡ false) → ((x.worker == w) || has_worker x.worker h) ≡ has_worker x.worker h
    mine t (inl same) = (let there : has_worker x.worker h ≡ true = subst (λ (k : ℕ). has_worker k h ≡ true) (sym (eqb-true x.worker w same)) t in or_right (x.worker == w) (has_worker x.worker h) there ∙ sym there)
    mine t (inr other) = ap (λ (a : Bool). a || has_worker x.worker h) other

-- and in a part that ends with its last event of none that it does not know of in the whole
within_up_to : (w v : ℕ) (h : List Event) → has_worker v (up_to w h) ≡ true → has_worker v h ≡ true
within_up_to w v [] t = t
within_up_to w v (x ∷ h) t = within_cond (has_worker w (x ∷ h)) (within_up_to w v h) t
  where
    within_cond : (b : Bool) → (has_worker v (up_to w h) ≡ true → has_worker v h ≡ true) → has_worker v (cond b (x ∷ up_to w h) []) ≡ true → has_worker v (x ∷ h) ≡ true
    within_cond true ih q = elim (or_cases (x.worker == v) (has_worker v (up_to w h)) q) [ inl y ↦ or_left (x.worker == v) (has_worker v h) y | inr y ↦ or_right (x.worker == v) (has_worker v h) (ih y) ]
    within_cond false ih q = absurd (false≢true q)

pub known_up_to : (w : ℕ) (h : List Event) → known w (up_to w h) ≤ known w h
known_up_to w [] = omega arith
known_up_to w (x ∷ h) = go (has_worker w (x ∷ h)) (known_up_to w h)
  where
    go : (b : Bool) → known w (up_to w h) ≤ known w h → known w (cond b (x ∷ up_to w h) []) ≤ known w (x ∷ h)
    go true ih = (let here = bit_le (is_failure x && ((x.worker == w) || has_worker x.worker (up_to w h))) (is_failure x && ((x.worker == w) || has_worker x.worker h)) (λ q.
        let r = and_parts (is_failure x) ((x.worker == w) || has_worker x.worker (up_to w h)) q in
        and_from (is_failure x) ((x.worker == w) || has_worker x.worker h) r.0 (elim (or_cases (x.worker == w) (has_worker x.worker (up_to w h)) r.1) [
          | inl y ↦ or_left (x.worker == w) (has_worker x.worker h) y
          | inr y ↦ or_right (x.worker == w) (has_worker x.worker h) (within_up_to w x.worker h y)
        ])) in
        omega (arith, ih, here))
    go false ih = omega arith

-- Up to a worker's last event.
pub up_to_own : (w : ℕ) (h : List Event) (e : Event) → (e.worker == w) ≡ true → up_to w (h ++ e ∷ []) ≡ h ++ e ∷ []
up_to_own w [] e own = ap (λ (a : Bool). cond (a || false) (e ∷ []) []) own
up_to_own w (x ∷ h) e own =
    ap (λ (a : Bool). cond a (x ∷ up_to w (h ++ e ∷ [])) []) (or_right (x.worker == w) (has_worker w (h ++ e ∷ [])) (own_added w h e own))
    ∙ ap (λ (l : List Event). x ∷ l) (up_to_own w h e own)

pub up_to_other : (w : ℕ) (h : List Event) (e : Event) → (e.worker == w) ≡ false → up_to w (h ++ e ∷ []) ≡ up_to w h
up_to_other w [] e other = ap (λ (a : Bool). cond (a || false) (e ∷ []) []) other
up_to_other w (x ∷ h) e other =
    ap (λ (a : Bool). cond ((x.worker == w) || a) (x ∷ up_to w (h ++ e ∷ [])) []) (other_added w h e other)
    ∙ ap (λ (l : List Event). cond (has_worker w (x ∷ h)) (x ∷ l) []) (up_to_other w h e other)

-- where no event is a failure, nobody knows of one
pub known_none : (w : ℕ) (h : List Event) → has_event is_failure h ≡ false → known w h ≡ 0
known_none w [] none = refl
known_none w (x ∷ h) none =
    let here : is_failure x ≡ false = false_from_ne_true (is_failure x) (λ t. both_ways (has_event is_failure (x ∷ h)) none (or_left (is_failure x) (has_event is_failure h) t)) in
    let rest : has_event is_failure h ≡ false = false_from_ne_true (has_event is_failure h) (λ t. both_ways (has_event is_failure (x ∷ h)) none (or_right (is_failure x) (has_event is_failure h) t)) in
    let ih : known w h ≡ 0 = known_none w h rest in
    let bits : bit (is_failure x && ((x.worker == w) || has_worker x.worker h)) ≡ 0 = ap (λ (a : Bool). bit (a && ((x.worker == w) || has_worker x.worker h))) here in
    omega (arith, ih, bits)

-- A worker that is alone knows of all.
pub alone_knows : (w : ℕ) (h : List Event) → ((j : ℕ) (e : Event) → slice_get h j ≡ Some e → e.worker ≡ w) → known w (up_to w h) ≡ failures h
alone_knows w [] each = refl
alone_knows w (x ∷ h) each =
    let own : (x.worker == w) ≡ true = eq-eqb x.worker w (each 0 x refl) in
    let ih : known w (up_to w h) ≡ failures h = alone_knows w h (λ j e q. each (suc j) e q) in
    let whole : up_to w (x ∷ h) ≡ x ∷ up_to w h = ap (λ (a : Bool). cond a (x ∷ up_to w h) []) (or_left (x.worker == w) (has_worker w h) own) in
    let here : bit (is_failure x && ((x.worker == w) || has_worker x.worker (up_to w h))) ≡ bit (is_failure x) = ap bit (ap (λ (a : Bool). is_failure x && a) (or_left (x.worker == w) (has_worker x.worker (up_to w h)) own) ∙ and_true (is_failure x)) in
    ap (known w) whole ∙ omega (arith, ih, here)

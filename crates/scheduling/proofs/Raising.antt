-- Failures that are raised: each failure of the history was raised, or is to be by the worker whose last event it is.
use Rattle.std.proofs.Common.{◌≡◌, ◌≢◌, ℕ, zero, suc, ◌+◌, ◌-◌, ◌<◌, ◌≤◌, Bool, true, false, ◌&&◌, ◌==◌, cond, List, [], ◌∷◌, length, set, Option, Some, None, slice_get, ◌⊎◌, inl, inr, refl, sym, ap, ◌∙◌, subst, arith, length-set}
use Rattle.std.proofs.lemmas.Option.{slice_get_within}
use Rattle.std.proofs.lemmas.Bool.{both_ways, cases_Bool, cases_eq, eqb-true, eq-eqb, false_from_ne_true}
use Rattle.descriptor.specs.Nodes.{bit}
use Rattle.plan_events.specs.declared.event.Event.{Event}
use Rattle.plan_events.specs.declared.outcome.Reply.{Reply}
use Rattle.resource_locks.specs.Plans.{PlanParts}
use Rattle.event_history.specs.Places.{is_failure}
use Rattle.event_history.specs.Failures.{failures, has_worker, known, up_to}
use Rattle.event_history.specs.Inside.Failing.{followed, fails_last}
use Rattle.event_history.proofs.Failures.{and_false, and_true, bit_le, none_last, known_is, known_up_to}
use Rattle.event_history.proofs.Lawful.{lawful_worker}
use Rattle.scheduling.specs.declared.seat.Seat.{Seat}
use Rattle.scheduling.specs.State.{State}
use Rattle.scheduling.specs.Inside.Stages.{Stage, raises}
use Rattle.scheduling.specs.Inside.Invariant.{sum_below, raising_in, raising_at, still_raising, Holds}
use Rattle.scheduling.proofs.Basics.{sum_change, get_set_same, get_set_other}

-- who goes on changes the number by its own task alone
pub raising_change : (seats : List Seat) (w : ℕ) (seat seat2 : Seat) → slice_get seats w ≡ Some seat → still_raising (set seats w seat2) + bit (raises seat.task) ≡ still_raising seats + bit (raises seat2.task)
unfolding still_raising
raising_change seats w seat seat2 is =
    let change = sum_change (raising_at (set seats w seat2)) (raising_at seats) w (length seats) (slice_get_within seats w seat is) (λ k ne. ap raising_in (get_set_other seats w seat2 k ne)) in
    let old : raising_at seats w ≡ bit (raises seat.task) = ap raising_in is in
    let new : raising_at (set seats w seat2) w ≡ bit (raises seat2.task) = ap raising_in (get_set_same seats w seat2 seat is) in
    let long : sum_below (raising_at (set seats w seat2)) (length (set seats w seat2)) ≡ sum_below (raising_at (set seats w seat2)) (length seats) = ap (sum_below (raising_at (set seats w seat2))) (length-set seats w seat2) in
    omega (arith, change, old, new, long)

-- Each failure is followed by an event of its worker, or is the last one of a worker.
nothing : (n : ℕ) → sum_below (λ v. bit (fails_last (v + 1) [])) n ≡ 0
nothing zero = refl
nothing (suc n) = (let ih = nothing n in omega (arith, ih))

before_other : (w : ℕ) (x : Event) (h : List Event) → (x.worker == w) ≡ false → fails_last w (x ∷ h) ≡ fails_last w h
before_other w x h other =
    elim (cases_Bool (has_worker w h)) [
      | inl t ↦ ap (λ (a : Bool). cond a (fails_last w h) (is_failure x && (x.worker == w))) t
      | inr f ↦ ap (λ (a : Bool). cond a (fails_last w h) (is_failure x && (x.worker == w))) f ∙ ap (λ (a : Bool). is_failure x && a) other ∙ and_false (is_failure x) ∙ sym (none_last w h f)
    ]

module _ (n : ℕ) (x : Event) (h : List Event) (low : 0 < x.worker) (high : x.worker ≤ n) (ih : failures h ≡ followed h + sum_below (λ v. bit (fails_last (v + 1) h)) n) where
  one_before : failures (x ∷ h) ≡ followed (x ∷ h) + sum_below (λ v. bit (fails_last (v + 1) (x ∷ h))) n
  one_before =
      let worker : x.worker - 1 + 1 ≡ x.worker = omega (arith, low) in
      let change = sum_change (λ v. bit (fails_last (v + 1) (x ∷ h))) (λ v. bit (fails_last (v + 1) h)) (x.worker - 1) n (omega (arith, low, high)) (λ k ne. ap bit (before_other (k + 1) x h (false_from_ne_true (x.worker == k + 1) (λ t. (let same = eqb-true x.worker (k + 1) t in ne (omega (arith, same))))))) in
      let now : bit (fails_last (x.worker - 1 + 1) (x ∷ h)) ≡ bit (fails_last x.worker (x ∷ h)) = ap (λ (v : ℕ). bit (fails_last v (x ∷ h))) worker in
      let was : bit (fails_last (x.worker - 1 + 1) h) ≡ bit (fails_last x.worker h) = ap (λ (v : ℕ). bit (fails_last v h)) worker in
      elim (cases_Bool (has_worker x.worker h)) [
        | inl t ↦ (let last : bit (fails_last x.worker (x ∷ h)) ≡ bit (fails_last x.worker h) = ap (λ (a : Bool). bit (cond a (fails_last x.worker h) (is_failure x && (x.worker == x.worker)))) t in
            let here : bit (is_failure x && has_worker x.worker h) ≡ bit (is_failure x) = ap bit (ap (λ (a : Bool). is_failure x && a) t ∙ and_true (is_failure x)) in
            omega (arith, ih, change, now, was, last, here))
        | inr f ↦ (let last : bit (fails_last x.worker (x ∷ h)) ≡ bit (is_failure x) = ap (λ (a : Bool). bit (cond a (fails_last x.worker h) (is_failure x && (x.worker == x.worker)))) f ∙ ap bit (ap (λ (a : Bool). is_failure x && a) (eq-eqb x.worker x.worker refl) ∙ and_true (is_failure x)) in
            let none : bit (fails_last x.worker h) ≡ 0 = ap bit (none_last x.worker h f) in
            let here : bit (is_failure x && has_worker x.worker h) ≡ 0 = ap bit (ap (λ (a : Bool). is_failure x && a) f ∙ and_false (is_failure x)) in
            omega (arith, ih, change, now, was, last, none, here))
      ]

failures_split : (n : ℕ) (h : List Event) → ((j : ℕ) (e : Event) → slice_get h j ≡ Some e → (0 < e.worker) × (e.worker ≤ n)) → failures h ≡ followed h + sum_below (λ v. bit (fails_last (v + 1) h)) n
failures_split n [] each = (let z = nothing n in omega (arith, z))
failures_split n (x ∷ h) each = one_before n x h (each 0 x refl).0 (each 0 x refl).1 (failures_split n h (λ j e q. each (suc j) e q))

sum_within : (f g : ℕ → ℕ) (x n : ℕ) → x < n → ((k : ℕ) → k < n → g k ≤ f k) → g x ≡ 0 → sum_below g n + f x ≤ sum_below f n
sum_within f g x zero lt few none = absurd (omega (arith, lt))
sum_within f g x (suc n) lt few none =
    let here : g n ≤ f n = few n (omega arith) in
    elim (cases_eq x n) [
      | inl e ↦ (let rest : sum_below g n ≤ sum_below f n = sums f g n (λ k l. few k (omega (arith, l))) in
          let a : f x ≡ f n = ap f e in
          let b : g x ≡ g n = ap g e in
          omega (arith, rest, a, b, none))
      | inr ne ↦ (let ih : sum_below g n + f x ≤ sum_below f n = sum_within f g x n (omega (arith, lt, ne)) (λ k l. few k (omega (arith, l))) none in omega (arith, ih, here))
    ]
  where
    sums : (f g : ℕ → ℕ) (n : ℕ) → ((k : ℕ) → k < n → g k ≤ f k) → sum_below g n ≤ sum_below f n
    sums f g zero few = omega arith
    sums f g (suc n) few = (let a : g n ≤ f n = few n (omega arith) in let b : sum_below g n ≤ sum_below f n = sums f g n (λ k l. few k (omega (arith, l))) in omega (arith, a, b))

module _ (p : PlanParts) (replies : ℕ → List Reply) (s : State) (g : ℕ → Stage) (h : Holds p replies s g) (ff : p.fail_fast ≡ true) where
  -- no more are raised than nodes failed
  pub raised_few : s.cancel ≤ failures s.published
  raised_few = (let all : s.cancel + still_raising s.seats ≡ failures s.published = h.raised ff in omega (arith, all))

  -- who has raised its failures knows of no more than are raised
  module _ (w : ℕ) (seat : Seat) (is : slice_get s.seats w ≡ Some seat) (calm : raises seat.task ≡ false) where
    pub knows_few : known (w + 1) (up_to (w + 1) s.published) ≤ s.cancel
    unfolding still_raising
    knows_few =
        let all : s.cancel + still_raising s.seats ≡ failures s.published = h.raised ff in
        let split = failures_split (length s.seats) s.published (λ j e q. (let low = lawful_worker e (h.published.legal.lawful j e q) in (omega (arith, low), h.published.legal.by_workers j e q))) in
        let some = sum_within (λ v. bit (fails_last (v + 1) s.published)) (raising_at s.seats) w (length s.seats) (slice_get_within s.seats w seat is) few (ap raising_in is ∙ ap bit calm) in
        let part : known (w + 1) (up_to (w + 1) s.published) ≤ known (w + 1) s.published = known_up_to (w + 1) s.published in
        let whole : known (w + 1) s.published ≡ followed s.published + bit (fails_last (w + 1) s.published) = known_is (w + 1) s.published in
        omega (arith, all, split, some, part, whole)
      where
        few : (k : ℕ) → k < length s.seats → raising_at s.seats k ≤ bit (fails_last (k + 1) s.published)
        few k lt = go (slice_get s.seats k) refl
          where
            go : (o : Option Seat) → slice_get s.seats k ≡ o → raising_in o ≤ bit (fails_last (k + 1) s.published)
            go None q = omega arith
            go (Some other) q = bit_le (raises other.task) (fails_last (k + 1) s.published) (h.seats k other q).failed

-- The steps of a run that change its state are steps that the plan bounds.
use Rattle.std.specs.Prelude.{option_and_then}
use Rattle.std.proofs.Common.{◌≡◌, ◌≢◌, ◌∙◌, ◌+◌, ◌*◌, ◌-◌, ◌≤◌, ℕ, Bool, true, false, if◌then◌else◌, ◌==◌, List, [], ◌∷◌, length, Option, Some, None, slice_get, ◌⊎◌, inl, inr, refl, sym, ap, subst, arith}
use Rattle.std.proofs.lemmas.Option.{none-some}
use Rattle.std.proofs.lemmas.Bool.{cases_eq, eq-eqb, ne_eqb}
use Rattle.std.proofs.Math.Nat.{mul-le-mul_right}
use Rattle.descriptor.specs.Nodes.{bit}
use Rattle.plan_events.specs.declared.outcome.Reply.{Reply}
use Rattle.resource_locks.specs.Plans.{PlanParts, IsPlan}
use Rattle.scheduling.specs.declared.seat.Seat.{Seat}
use Rattle.scheduling.specs.declared.step.Action.{Action}
use Rattle.scheduling.specs.declared.step.Step.{Step}
use Rattle.scheduling.specs.declared.step.Step.TheVariants.{Worker, Read}
use Rattle.scheduling.specs.Rows.{is_free, after_seat, after, Works, Dispatches}
use Rattle.scheduling.specs.Rows.{Step as Move}
use Rattle.scheduling.specs.Runs.{opening, or_stays, next, IsReplied, AllReplied}
use Rattle.scheduling.specs.State.{State}
use Rattle.scheduling.specs.Inside.Invariant.{IsCorePlan, IsKept}
use Rattle.scheduling.proofs.FirstState.{opening_is}
use Rattle.scheduling.proofs.Headline.{core_plan}
use Rattle.scheduling.proofs.Steps.{after_keeps}
use Rattle.termination.specs.Bounds.{most_steps, steps_of_a_try, most_steps_apart, most_steps_on, most_steps_apart_on}
use Rattle.termination.specs.Steps.{AllTaken, turns_seat_back}
use Rattle.termination.specs.Steps.{turns_back as move_turns_back, times_turned_back as moves_turned_back}
use Rattle.termination.proofs.Bounded.{bounded}
use Rattle.termination.proofs.Differs.{LooksFree, work_differs, read_differs}
use Rattle.termination.proofs.Reached.{bounded_on, short_on}
use Rattle.termination.proofs.Short.{short}
use Rattle.sched_core.specs.Replies.{replies_of}
use Rattle.sched_core.specs.Runs.{state_or, missed, passed_over}
use Rattle.sched_core.specs.Steps.{reply_for, after_step}
use Rattle.sched_core.specs.Taken.{seat_of, looks_free, finds_nothing, turns_back, free_looks, times_turned_back, TakesAtMost, IsBounded, IsShort, IsBoundedOn, IsShortOn}
use Rattle.sched_core.proofs.Sound.{replied}

module _ (p : PlanParts) (core : IsCorePlan p) (answers : List (ℕ × Reply)) where
  -- a step that leads to t, as one of the plan: it makes another state, or is a free worker's look
  record Moves (s : State) (a : Step) (t : State) : Type 0 where
    move : Move
    leads : after p s move ≡ Some t
    given : IsReplied p (replies_of answers) s move
    back : move_turns_back p s move ≡ turns_back p s a
    other : ((finds_nothing s a ≡ true) × (t ≡ s)) ⊎ (t ≢ s)

  moves : (s : State) (a : Step) (t : State) → IsKept p (replies_of answers) s → after_step p answers s a ≡ Some t → Moves s a t
  moves s Read t kept q = record { move = Dispatches; leads = q; given = tt; back = refl; other = inr (read_differs p s t q) }
  moves s (Worker worker a) t kept q =
      elim (cases_eq worker 0) [
        | inl zero' ↦ absurd (none-some t (sym (ap (λ (b : Bool). if b then None else by_seat (slice_get s.seats (worker - 1))) (eq-eqb worker 0 zero')) ∙ q))
        | inr above ↦ (let numbered : (worker == 0) ≡ false = ne_eqb worker 0 above in
            go (slice_get s.seats (worker - 1)) refl (ap (λ (b : Bool). if b then None else slice_get s.seats (worker - 1)) numbered)
            (sym (ap (λ (b : Bool). if b then None else by_seat (slice_get s.seats (worker - 1))) numbered) ∙ q))
      ]
    where
      by_seat : Option Seat → Option State
      by_seat found = option_and_then (λ x. after_seat p s (worker - 1) a (reply_for p answers x) x) found

      looks : (seat : Seat) → seat_of s worker ≡ Some seat → LooksFree s (worker - 1) a t → slice_get s.seats (worker - 1) ≡ Some seat → finds_nothing s (Worker worker a) ≡ true
      looks seat of x at = ap (λ (o : Option Seat). looks_free a o) (of ∙ sym at ∙ x.is) ∙ ap (λ (b : Action). looks_free b (Some x.seat)) x.look ∙ ap is_free x.free

      go : (found : Option Seat) → slice_get s.seats (worker - 1) ≡ found → seat_of s worker ≡ slice_get s.seats (worker - 1) → by_seat found ≡ Some t → Moves s (Worker worker a) t
      go None at of r = absurd (none-some t r)
      go (Some seat) at of r =
          let given : IsReplied p (replies_of answers) s (Works (worker - 1) a (reply_for p answers seat)) = replied p answers s (worker - 1) a seat at in
          let leads : after p s (Works (worker - 1) a (reply_for p answers seat)) ≡ Some t = ap (option_and_then (after_seat p s (worker - 1) a (reply_for p answers seat))) at ∙ r in
          record {
            move = Works (worker - 1) a (reply_for p answers seat);
            leads = leads;
            given = given;
            back = ap (turns_seat_back p s a) (sym of);
            other = elim (work_differs p core (replies_of answers) s t (worker - 1) a (reply_for p answers seat) kept given leads) [
              | inl x ↦ inl (looks seat (of ∙ at) x at, x.same)
              | inr differs ↦ inr differs
            ];
          }

  -- the steps of a list that change the state
  pub record Takes (s : State) (steps : List Step) : Type 0 where
    pub list : List Move
    pub replied_all : AllReplied p (replies_of answers) s list
    pub taken_all : AllTaken p s list
    pub all : length steps ≤ passed_over p answers s steps + free_looks p answers s steps + length list
    pub back : moves_turned_back p s list ≤ times_turned_back p answers s steps

  -- one that is passed over, or changes nothing
  passes : (s : State) (a : Step) (steps : List Step) (next_state : State) → state_or s (after_step p answers s a) ≡ next_state → next_state ≡ s → 1 ≤ missed (after_step p answers s a) + bit (finds_nothing s a) → Takes next_state steps → Takes s (a ∷ steps)
  passes s a steps u to same one rest =
      let all = ap (λ (x : State). passed_over p answers x steps + free_looks p answers x steps) to in
      let times = ap (λ (x : State). times_turned_back p answers x steps) to in
      let moved = ap (λ (x : State). moves_turned_back p x rest.list) (sym same) in
      let many = rest.all in
      let few = rest.back in
      record {
        list = rest.list;
        replied_all = subst (λ (x : State). AllReplied p (replies_of answers) x rest.list) same rest.replied_all;
        taken_all = subst (λ (x : State). AllTaken p x rest.list) same rest.taken_all;
        all = omega (arith, all, one, many);
        back = omega (arith, times, moved, few);
      }

  -- one that changes it
  changes : (s : State) (a : Step) (steps : List Step) (t : State) → after_step p answers s a ≡ Some t → t ≢ s → Moves s a t → Takes t steps → Takes s (a ∷ steps)
  changes s a steps t q other m rest =
      let here : next p s m.move ≡ t = ap (or_stays s) m.leads in
      let to : state_or s (after_step p answers s a) ≡ t = ap (state_or s) q in
      let all = ap (λ (x : State). passed_over p answers x steps + free_looks p answers x steps) to in
      let times = ap (λ (x : State). times_turned_back p answers x steps) to in
      let moved = ap (λ (x : State). moves_turned_back p x rest.list) here in
      let turned = ap bit m.back in
      let many = rest.all in
      let few = rest.back in
      record {
        list = m.move ∷ rest.list;
        replied_all = (m.given, subst (λ (x : State). AllReplied p (replies_of answers) x rest.list) (sym here) rest.replied_all);
        taken_all = (record { made = t; is = m.leads; other = other }, subst (λ (x : State). AllTaken p x rest.list) (sym here) rest.taken_all);
        all = omega (arith, all, many);
        back = omega (arith, times, moved, turned, few);
      }

  takes_then : (s : State) (a : Step) (steps : List Step) → IsKept p (replies_of answers) s → ((t : State) → IsKept p (replies_of answers) t → Takes t steps) → (found : Option State) → after_step p answers s a ≡ found → Takes s (a ∷ steps)
  takes_then s a steps kept rest None q = (let one = ap missed q in passes s a steps s (ap (state_or s) q) refl (omega (arith, one)) (rest s kept))
  takes_then s a steps kept rest (Some t) q =
      let m = moves s a t kept q in
      let more = rest t (after_keeps p core (replies_of answers) s t m.move kept m.given m.leads) in
      elim m.other [
        | inl idle ↦ (let one = ap bit idle.0 in passes s a steps t (ap (state_or s) q) idle.1 (omega (arith, one)) more)
        | inr other ↦ changes s a steps t q other m more
      ]

  pub takes : (s : State) (steps : List Step) → IsKept p (replies_of answers) s → Takes s steps
  takes s [] kept = record { list = []; replied_all = tt; taken_all = tt; all = omega arith; back = omega arith }
  takes s (a ∷ steps) kept = takes_then s a steps kept (λ t kept2. takes t steps kept2) (after_step p answers s a) refl

module _ (p : PlanParts) (plan : IsPlan p) (answers : List (ℕ × Reply)) where
  -- of the steps those are few that change the state
  counted : (s : State) (steps : List Step) (k : Takes p (core_plan p plan.tree) answers s steps) (most : ℕ) → length k.list ≤ most → TakesAtMost p answers s steps (passed_over p answers s steps) most
  counted s steps k most few = (let all = k.all in omega (arith, all, few))

  tried : (s : State) (steps : List Step) (k : Takes p (core_plan p plan.tree) answers s steps) (most : ℕ) → length k.list ≤ most + moves_turned_back p s k.list * steps_of_a_try p → TakesAtMost p answers s steps (passed_over p answers s steps) (most + times_turned_back p answers s steps * steps_of_a_try p)
  tried s steps k most few =
      let tries : moves_turned_back p s k.list * steps_of_a_try p ≤ times_turned_back p answers s steps * steps_of_a_try p = mul-le-mul_right (steps_of_a_try p) k.back in
      counted s steps k (most + times_turned_back p answers s steps * steps_of_a_try p) (plain _ _ _ few tries)
    where
      plain : (len tries all : ℕ) → len ≤ most + tries → tries ≤ all → len ≤ most + all
      plain len tries all a b = omega (arith, a, b)

  -- Whatever steps are taken from a state on.
  pub bounded_from : (s : State) → IsKept p (replies_of answers) s → IsBoundedOn p answers s
  bounded_from s kept steps = (let k = takes p (core_plan p plan.tree) answers s steps kept in tried s steps k (most_steps_on p (length s.seats)) (bounded_on p plan (replies_of answers) s kept.0 kept.1 k.list k.replied_all k.taken_all))

  pub short_from : (s : State) → IsKept p (replies_of answers) s → IsShortOn p answers s
  short_from s kept apart steps = (let k = takes p (core_plan p plan.tree) answers s steps kept in counted s steps k (most_steps_apart_on p (length s.seats)) (short_on p plan (replies_of answers) s kept.0 kept.1 apart k.list k.replied_all k.taken_all))

  module _ (workers : ℕ) (few : workers ≤ 64) (steps : List Step) where
    kept : IsKept p (replies_of answers) (opening p workers)
    kept = opening_is p (core_plan p plan.tree) (replies_of answers) workers few

    -- from the opening on
    pub bounded_run : IsBounded p answers workers steps (passed_over p answers (opening p workers) steps)
    bounded_run = (let k = takes p (core_plan p plan.tree) answers (opening p workers) steps kept in tried (opening p workers) steps k (most_steps p workers) (bounded p plan (replies_of answers) workers few k.list k.replied_all k.taken_all))

    pub short_run : IsShort p answers workers steps (passed_over p answers (opening p workers) steps)
    short_run apart = (let k = takes p (core_plan p plan.tree) answers (opening p workers) steps kept in counted (opening p workers) steps k (most_steps_apart p workers) (short p plan apart (replies_of answers) workers few k.list k.replied_all k.taken_all))

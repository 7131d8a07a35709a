-- What the invariant gives the methods of the machine, and that a step leaves the machine sound.
use Rattle.std.proofs.Common.{◌≡◌, ◌≢◌, ◌∙◌, ◌<◌, ltb, ◌-◌, ℕ, Bool, true, if◌then◌else◌, List, length, Option, Some, None, Result, slice_get, get_or, refl, sym, ap, subst, arith, inl, inr}
use Rattle.std.specs.Prelude.{option_and_then}
use Rattle.std.proofs.lemmas.Option.{same_Some, none-some, slice_get_read}
use Rattle.std.proofs.lemmas.Bool.{ltb-true, cases_eq, eq-eqb, ne_eqb}
use Rattle.plan_events.specs.declared.outcome.Reply.{Reply}
use Rattle.resource_locks.specs.Plans.{PlanParts}
use Rattle.scheduling.specs.declared.step.Action.{Action}
use Rattle.scheduling.specs.declared.step.Step.{Step}
use Rattle.scheduling.specs.declared.step.Step.TheVariants.{Worker, Read}
use Rattle.scheduling.specs.declared.seat.Seat.{Seat}
use Rattle.scheduling.specs.Choices.{awaited}
use Rattle.scheduling.specs.Rows.{Works, Dispatches, after, after_seat}
use Rattle.scheduling.specs.Rows.{Step as Move}
use Rattle.scheduling.specs.Runs.{IsReplied}
use Rattle.scheduling.specs.State.{State}
use Rattle.scheduling.proofs.SameWorkers.{SameWorkers, after_same_workers}
use Rattle.scheduling.proofs.Headline.{core_plan}
use Rattle.never_stuck.specs.Inside.Live.{IsLive}
use Rattle.never_stuck.proofs.Reach.{live_step}
use Rattle.sched_core.specs.declared.machine.Machine.{Machine}
use Rattle.sched_core.specs.Replies.{reply_of, replies_of}
use Rattle.sched_core.specs.Steps.{reply_awaited, reply_for, worker_step, after_step}
use Rattle.sched_core.specs.Inside.Fields.{state_of, IsSound, IsAnswered, KeepsRoom, HasRoom}

-- the reply of a step of this worker is that of the job that it awaits
pub replied : (p : PlanParts) (answers : List (ℕ × Reply)) (s : State) (w : ℕ) (a : Action) (seat : Seat) → slice_get s.seats w ≡ Some seat → IsReplied p (replies_of answers) s (Works w a (reply_for p answers seat))
replied p answers s w a seat is other at job awaits =
    let same : other ≡ seat = same_Some other seat (sym at ∙ is) in
    let here : awaited p seat seat.task ≡ Some job = ap (λ (x : Seat). awaited p x x.task) (sym same) ∙ awaits in
    (0, ap (λ (o : Option ℕ). Some (reply_awaited answers o)) (sym here) ∙ refl)

-- a step of the worker with this number is one of the worker at its place
pub work_is : (p : PlanParts) (answers : List (ℕ × Reply)) (s : State) (worker : ℕ) (a : Action) (seat : Seat) → worker ≢ 0 → slice_get s.seats (worker - 1) ≡ Some seat → worker_step p answers s worker a ≡ after p s (Works (worker - 1) a (reply_for p answers seat))
work_is p answers s worker a seat above is =
    ap (λ (b : Bool). if b then None else option_and_then (λ x. after_seat p s (worker - 1) a (reply_for p answers x) x) (slice_get s.seats (worker - 1))) (ne_eqb worker 0 above)
    ∙ ap (option_and_then (λ x. after_seat p s (worker - 1) a (reply_for p answers x) x)) is
    ∙ sym (ap (option_and_then (after_seat p s (worker - 1) a (reply_for p answers seat))) is)

-- a step that leads somewhere is a move of the state, with the reply that is awaited
pub record IsMove (p : PlanParts) (answers : List (ℕ × Reply)) (s t : State) : Type 0 where
  pub move : Move
  pub leads : after p s move ≡ Some t
  pub replied : IsReplied p (replies_of answers) s move

pub step_moves : (p : PlanParts) (answers : List (ℕ × Reply)) (s t : State) (step : Step) → after_step p answers s step ≡ Some t → IsMove p answers s t
step_moves p answers s t Read q = record { move = Dispatches; leads = q; replied = tt }
step_moves p answers s t (Worker worker a) q =
    elim (cases_eq worker 0) [
      | inl zero' ↦ absurd (none-some t (sym (ap (λ (b : Bool). if b then None else by_seat (slice_get s.seats (worker - 1))) (eq-eqb worker 0 zero')) ∙ q))
      | inr above ↦ go (slice_get s.seats (worker - 1)) refl (sym (ap (λ (b : Bool). if b then None else by_seat (slice_get s.seats (worker - 1))) (ne_eqb worker 0 above)) ∙ q)
    ]
  where
    by_seat : Option Seat → Option State
    by_seat found = option_and_then (λ x. after_seat p s (worker - 1) a (reply_for p answers x) x) found

    go : (found : Option Seat) → slice_get s.seats (worker - 1) ≡ found → by_seat found ≡ Some t → IsMove p answers s t
    go None at r = absurd (none-some t r)
    go (Some seat) at r = record {
      move = Works (worker - 1) a (reply_for p answers seat);
      leads = ap (option_and_then (after_seat p s (worker - 1) a (reply_for p answers seat))) at ∙ r;
      replied = replied p answers s (worker - 1) a seat at;
    }

-- a seat that `get` has found
pub seat_found : (xs ys : List Seat) (i j : ℕ) (x : Seat) → ys ≡ xs → j ≡ i → true ≡ ltb j (length ys) → x ≡ get_or ys j x → slice_get xs i ≡ Some x
seat_found xs ys i j x list place inside at =
    slice_get_read xs (length xs) i x refl
    (let lt : j < length ys = ltb-true j (length ys) (sym inside) in omega (arith, lt, place, ap length list))
    (at ∙ ap (λ (l : List Seat). get_or l j x) list ∙ ap (λ (k : ℕ). get_or xs k x) place)

-- An answered step leaves the machine sound, with the same workers.
kept_room : (p : PlanParts) (old new : Machine) → KeepsRoom old new → HasRoom p old → HasRoom p new
kept_room p old new keeps room = record {
  published = (let a = keeps.published in let b = room.published in omega (arith, a, b));
  shown = (let a = keeps.shown in let b = room.shown in omega (arith, a, b));
}

pub same_workers : {T E : Type 0} (old new : Machine) (next : Option State) (result : Result T E) → IsAnswered old next result new → new.workers ≡ old.workers
same_workers old new None result is = ap (λ (m : Machine). m.workers) is.1
same_workers old new (Some t) result is = is.2.workers

pub sound_answered : {T E : Type 0} (p : PlanParts) (answers : List (ℕ × Reply)) (old new : Machine) (step : Step) (result : Result T E) → IsSound p answers old → IsAnswered old (after_step p answers (state_of old) step) result new → IsSound p answers new
sound_answered p answers old new step result sound is = go (after_step p answers (state_of old) step) refl is
  where
    go : (next : Option State) → after_step p answers (state_of old) step ≡ next → IsAnswered old next result new → IsSound p answers new
    go None q r = subst (IsSound p answers) (sym r.1) sound
    go (Some t) q r =
        let move = step_moves p answers (state_of old) t step q in
        let crew : SameWorkers (state_of old) (Some t) = subst (SameWorkers (state_of old)) move.leads (after_same_workers p (state_of old) move.move) in
        record {
          plan = sound.plan;
          workers = (let w = sound.workers in let v = r.2.workers in ap (λ (s : State). length s.seats) r.1 ∙ crew.0 ∙ w ∙ sym v);
          live = subst (IsLive p (replies_of answers) (reply_of answers)) (sym r.1) (live_step p (core_plan p sound.plan.tree) (replies_of answers) (reply_of answers) (λ job. refl) (state_of old) t move.move sound.live move.replied move.leads);
          given = r.2.given sound.given;
          room = kept_room p old new r.2 sound.room;
        }

-- The machine's steps as turns of workers: each is possible, and leaves less to do.
use Rattle.std.specs.Prelude.{option_and_then}
use Rattle.std.proofs.Common.{◌≡◌, ◌∙◌, ◌<◌, ◌≤◌, ◌+◌, ◌-◌, ℕ, false, List, [], ◌∷◌, ◌++◌, length, Option, Some, None, Result, Ok, Err, IsOk, slice_get, refl, sym, ap, subst, arith, length-append}
use Rattle.std.specs.Result.{is_ok}
use Rattle.std.proofs.lemmas.Bool.{false≢true}
use Rattle.std.proofs.lemmas.Option.{slice_get_within}
use Rattle.plan_events.specs.declared.outcome.Reply.{Reply}
use Rattle.resource_locks.specs.Plans.{PlanParts}
use Rattle.resource_locks.specs.Spares.{HasFreeSpares}
use Rattle.scheduling.specs.declared.seat.Seat.{Seat}
use Rattle.scheduling.specs.declared.step.Action.{Action}
use Rattle.scheduling.specs.declared.step.Step.{Step}
use Rattle.scheduling.specs.declared.step.Step.TheVariants.{Worker, Read}
use Rattle.scheduling.specs.declared.task.Task.TheVariants.{Free}
use Rattle.scheduling.specs.Choices.{awaited, decided}
use Rattle.scheduling.specs.Inside.Invariant.{IsCorePlan}
use Rattle.scheduling.specs.Rows.{after_seat, after, Works, read_row}
use Rattle.scheduling.specs.Runs.{opening}
use Rattle.scheduling.specs.Shown.{IsShown}
use Rattle.scheduling.specs.State.{State, status_at}
use Rattle.scheduling.specs.declared.status.NodeStatus.TheVariants.{Settled}
use Rattle.scheduling.specs.Inside.Start.{free_seat}
use Rattle.scheduling.proofs.FirstState.{get_replicate}
use Rattle.scheduling.proofs.Headline.{core_plan}
use Rattle.never_stuck.specs.Reaching.{answer}
use Rattle.never_stuck.specs.Reaching.{reply_by as reply_of_job}
use Rattle.termination.specs.Inside.Accounts.{steps_left}
use Rattle.termination.specs.Inside.Turns.{IsTurnOf, IsBetweenTurns}
use Rattle.termination.specs.Turns.{NextInTurn, takes_keys}
use Rattle.termination.proofs.Acting.{read_same}
use Rattle.termination.proofs.InTurn.{Goes, goes_on, is_free_then, turn_over}
use Rattle.termination.proofs.Opening.{steps_at_start}
use Rattle.termination.proofs.Payments.{read_pays}
use Rattle.termination.proofs.TurnsEnd.{seat_there, all_settled}
use Rattle.sched_core.specs.declared.machine.Machine.{Machine}
use Rattle.sched_core.specs.declared.trace.Trace.{Trace}
use Rattle.sched_core.specs.Rounds.{IsTakenWhole}
use Rattle.sched_core.specs.Traces.{IsTraceOf}
use Rattle.sched_core.specs.Replies.{reply_of, replies_of}
use Rattle.sched_core.specs.Runs.{run, passed_over, state_or, missed}
use Rattle.sched_core.specs.Steps.{reply_awaited, reply_for, after_step}
use Rattle.sched_core.specs.Inside.Fields.{state_of, IsSound, IsAnswered}
use Rattle.sched_core.specs.Inside.Rounds.{IsQuiet, IsOver, Leads}
use Rattle.sched_core.specs.InTurns.{IsNextInTurn, IsIdle, IsStepInTurn}
use Rattle.sched_core.proofs.Sound.{work_is}
use Rattle.sched_core.proofs.Tracing.{shown_trace}

module _ (p : PlanParts) (answers : List (ℕ × Reply)) where
  pub same_reply : (found : Option ℕ) → reply_awaited answers found ≡ reply_of_job (reply_of answers) found
  same_reply None = refl
  same_reply (Some job) = refl

  -- Steps one after the other.
  pub leads_here : (s : State) → Leads p answers s s
  leads_here s = record { steps = []; is = refl; all = refl; less = omega arith }

  pub leads_one : (s t : State) (a : Step) → after_step p answers s a ≡ Some t → steps_left p t < steps_left p s → Leads p answers s t
  leads_one s t a q less = record { steps = a ∷ []; is = ap (state_or s) q; all = (let one = ap missed q in omega (arith, one)); less = omega (arith, less) }

  run_on : (s : State) (xs ys : List Step) → run p answers s (xs ++ ys) ≡ run p answers (run p answers s xs) ys
  run_on s [] ys = refl
  run_on s (x ∷ xs) ys = run_on (state_or s (after_step p answers s x)) xs ys

  passed_on : (s : State) (xs ys : List Step) → passed_over p answers s (xs ++ ys) ≡ passed_over p answers s xs + passed_over p answers (run p answers s xs) ys
  passed_on s [] ys = omega arith
  passed_on s (x ∷ xs) ys = (let rest = passed_on (state_or s (after_step p answers s x)) xs ys in omega (arith, rest))

  pub leads_then : (s t u : State) → Leads p answers s t → Leads p answers t u → Leads p answers s u
  leads_then s t u a b =
      let all = passed_on s a.steps b.steps in
      let here = ap (λ (x : State). passed_over p answers x b.steps) a.is in
      let none = a.all in
      let no_more = b.all in
      let less = a.less in
      let least = b.less in
      let both = length-append a.steps b.steps in
      record {
        steps = a.steps ++ b.steps;
        is = run_on s a.steps b.steps ∙ ap (λ (x : State). run p answers x b.steps) a.is ∙ b.is;
        all = omega (arith, all, here, none, no_more);
        less = omega (arith, both, less, least);
      }

  pub leads_less : (s t : State) → Leads p answers s t → steps_left p t ≤ steps_left p s
  leads_less s t a = (let less = a.less in omega (arith, less))

  -- What is left of a step of the worker at place w, in its turn.
  pub record IsWorked (old new : Machine) (w : ℕ) : Type 0 where
    pub step : IsStepInTurn p answers w (state_of old) (state_of new)
    pub turn : IsTurnOf p (state_of new) w
    pub leads : Leads p answers (state_of old) (state_of new)
    pub less : steps_left p (state_of new) < steps_left p (state_of old)

  module _ (old : Machine) (sound : IsSound p answers old) (w : ℕ) (seat : Seat) (at : slice_get old.seats.items w ≡ Some seat) where
    core : IsCorePlan p
    core = core_plan p sound.plan.tree

    same : reply_for p answers seat ≡ answer p (reply_of answers) seat
    same = same_reply (awaited p seat seat.task)

    pub in_turn : (found : Option Action) → IsNextInTurn p answers (state_of old) w seat found → NextInTurn p (state_of old) w (answer p (reply_of answers) seat) seat.hand (decided p (answer p (reply_of answers) seat) seat.task) found
    in_turn found next = subst (λ (r : Reply). NextInTurn p (state_of old) w r seat.hand (decided p r seat.task) found) same next

    -- who has nothing to do is free
    pub idle_free : IsNextInTurn p answers (state_of old) w seat None → seat.task ≡ Free
    idle_free next = is_free_then p sound.plan core (replies_of answers) (reply_of answers) (λ job. refl) (state_of old) sound.live w seat at seat.hand (decided p (answer p (reply_of answers) seat) seat.task) refl (in_turn None next)

    is_step : (a : Action) (t : State) → after_seat p (state_of old) w a (answer p (reply_of answers) seat) seat ≡ Some t → after_step p answers (state_of old) (Worker (w + 1) a) ≡ Some t
    is_step a t q =
        let one : w + 1 - 1 ≡ w = omega arith in
        work_is p answers (state_of old) (w + 1) a seat (λ z. omega (arith, z)) (ap (slice_get old.seats.items) one ∙ at)
        ∙ ap (λ (k : ℕ). after p (state_of old) (Works k a (reply_for p answers seat))) one
        ∙ ap (option_and_then (after_seat p (state_of old) w a (reply_for p answers seat))) at
        ∙ ap (λ (r : Reply). after_seat p (state_of old) w a r seat) same
        ∙ q

    module _ {T E : Type 0} (new : Machine) (turn : IsTurnOf p (state_of old) w) (a : Action) (next : IsNextInTurn p answers (state_of old) w seat (Some a)) (result : Result T E) (is : IsAnswered old (after_step p answers (state_of old) (Worker (w + 1) a)) result new) where
      goes : Goes p sound.plan core (replies_of answers) (reply_of answers) (λ job. refl) (state_of old) sound.live w seat at a
      goes = goes_on p sound.plan core (replies_of answers) (reply_of answers) (λ job. refl) (state_of old) sound.live w seat at turn a (in_turn (Some a) next)

      leads : after_step p answers (state_of old) (Worker (w + 1) a) ≡ Some goes.next
      leads = is_step a goes.next goes.is_row

      got : IsAnswered old (Some goes.next) result new
      got = subst (λ (o : Option State). IsAnswered old o result new) leads is

      pub worked_ok : IsOk result
      worked_ok = got.0

      pub worked : IsWorked old new w
      worked =
          let to : goes.next ≡ state_of new = sym got.1 in
          record {
            step = subst (IsStepInTurn p answers w (state_of old)) to (record { seat = seat; at = at; action = a; next = next; leads = leads });
            turn = subst (λ (s : State). IsTurnOf p s w) to goes.turn;
            leads = subst (Leads p answers (state_of old)) to (leads_one (state_of old) goes.next (Worker (w + 1) a) leads goes.less);
            less = subst (λ (s : State). steps_left p s < steps_left p (state_of old)) to goes.less;
          }

  module _ {T E : Type 0} (old new : Machine) (sound : IsSound p answers old) (w : ℕ) (inside : w < length old.seats.items) (turn : IsTurnOf p (state_of old) w) (a : Action)
      (next : (seat : Seat) → slice_get old.seats.items w ≡ Some seat → IsNextInTurn p answers (state_of old) w seat (Some a)) (result : Result T E) (is : IsAnswered old (after_step p answers (state_of old) (Worker (w + 1) a)) result new) where
    pub works_so : IsWorked old new w
    works_so = (let r = seat_there old.seats.items w inside in worked old sound w r.0 r.1 new turn a (next r.0 r.1) result is)

    pub works_ok : is_ok result ≡ false → ⊥
    works_ok no' = (let r = seat_there old.seats.items w inside in no_fault result (worked_ok old sound w r.0 r.1 new turn a (next r.0 r.1) result is) no')
      where
        no_fault : (x : Result T E) → IsOk x → is_ok x ≡ false → ⊥
        no_fault (Ok x) o q = false≢true (sym q)
        no_fault (Err x) o q = cc

  -- What the dispatcher reads leaves the turns as they are.
  pub read_between : (s t : State) → read_row s ≡ Some t → IsBetweenTurns s → IsBetweenTurns t
  read_between s t q between v seat at = between v seat (ap (λ (l : List Seat). slice_get l v) (sym (read_same s t q).0) ∙ at)

  pub read_leads : (s t : State) → read_row s ≡ Some t → Leads p answers s t
  read_leads s t q = leads_one s t Read q (read_pays p s t q)

  -- At the opening nobody takes keys.
  pub opening_between : (workers : ℕ) → IsBetweenTurns (opening p workers)
  opening_between workers v seat at = ap (λ (x : Seat). takes_keys x.task) (sym (get_replicate workers free_seat seat v at))

  -- A worker that goes on from another state of the same turn.
  pub idle_between : (m : Machine) → IsSound p answers m → (w : ℕ) → w < length m.seats.items → IsTurnOf p (state_of m) w → IsIdle p answers (state_of m) w → IsBetweenTurns (state_of m)
  idle_between m sound w inside turn idle =
      let r = seat_there m.seats.items w inside in
      turn_over p (state_of m) w r.0 r.1 (ap takes_keys (idle_free m sound w r.0 r.1 (idle r.0 r.1))) turn

  module _ (m : Machine) (sound : IsSound p answers m) where
    -- where no turn finds anything to do
    module _ (spares : HasFreeSpares p) (quiet : (v : ℕ) → v < m.workers → IsQuiet p answers (state_of m) v) where
      within : (v : ℕ) → v < length m.seats.items → v < m.workers
      within v lt = (let seats = sound.workers in omega (arith, lt, seats))

      settled : status_at (state_of m) 0 ≡ Settled
      settled = all_settled p sound.plan (core_plan p sound.plan.tree) spares (replies_of answers) (reply_of answers) (λ job. refl) (state_of m) sound.live
          (λ v o at. in_turn m sound v o at None ((quiet v (within v (slice_get_within m.seats.items v o at))).1 o at))

      pub over_turns : IsOver (state_of m)
      over_turns = ((quiet 0 (within 0 sound.live.some)).0, settled)

    pub taken_whole : (workers : ℕ) (t : Trace) → m.workers ≡ workers → Leads p answers (opening p workers) (state_of m) → IsTraceOf (state_of m) 0 t → IsTakenWhole p answers workers t
    taken_whole workers t count leads is = record {
      steps = leads.steps;
      few = (let less = leads.less in let most = steps_at_start p sound.plan workers in omega (arith, less, most));
      all = leads.all;
      trace = subst (λ (s : State). IsTraceOf s 0 t) (sym leads.is) is;
      shown = subst (λ (s : State). IsShown s t.given.items) (sym leads.is) (shown_trace p answers m sound workers 0 count t is);
    }

-- The history of a run of the core has a schedule: its steps, but for those that are passed over.
use Rattle.std.specs.Prelude.{option_and_then}
use Rattle.std.proofs.Common.{◌≡◌, ℕ, suc, ◌+◌, ◌*◌, ◌≤◌, ◌-◌, ◌==◌, cond, Bool, true, false, ne_eqb, arith, length, List, [], ◌∷◌, Option, Some, None, slice_get, refl, sym, ap, ◌∙◌, subst}
use Rattle.plan_events.specs.declared.event.Event.{Event}
use Rattle.plan_events.specs.declared.outcome.Reply.{Reply}
use Rattle.resource_locks.specs.Plans.{PlanParts}
use Rattle.scheduling.specs.declared.seat.Seat.{Seat}
use Rattle.scheduling.specs.declared.step.Action.{Action}
use Rattle.scheduling.specs.declared.step.Step.{Step}
use Rattle.scheduling.specs.declared.step.Step.TheVariants.{Worker, Read}
use Rattle.scheduling.specs.Choices.{awaited}
use Rattle.scheduling.specs.Rows.{Works, Dispatches, after, after_seat}
use Rattle.scheduling.specs.Rows as rows
use Rattle.scheduling.specs.Runs.{opening, or_stays}
use Rattle.scheduling.specs.Runs as runs
use Rattle.scheduling.specs.State.{State}
use Rattle.sched_core.specs.Replies.{reply_of}
use Rattle.sched_core.specs.Runs.{run, passed_over, state_or, missed}
use Rattle.std.proofs.lemmas.Bool.{false≢true}
use Rattle.std.proofs.lemmas.Option.{same_Some}
use Rattle.descriptor.specs.Nodes.{IsTree, bit, body_of}
use Rattle.resource_locks.specs.Plans.{IsPlan}
use Rattle.event_history.specs.Plans.{pulls_job}
use Rattle.scheduling.specs.declared.step.Action.TheVariants.{Claim, Own, Look}
use Rattle.scheduling.specs.declared.task.Task.{Task}
use Rattle.scheduling.specs.declared.task.Task.TheVariants.{Free, Opens, Closes}
use Rattle.scheduling.specs.Choices.{decided}
use Rattle.scheduling.specs.Rows.{is_free, look_row, decided_seat}
use Rattle.scheduling.proofs.DecidedInPlace.{after_direct}
use Rattle.termination.specs.Bounds.{most_steps, steps_of_a_try, most_steps_apart}
use Rattle.termination.specs.Conflicts.{IsFreeOfConflict}
use Rattle.sched_core.specs.Taken.{seat_of, looks_free, finds_nothing, free_looks, times_turned_back}
use Rattle.sched_core.proofs.Taken.{bounded_run, short_run}
use Rattle.sched_core.specs.Steps.{reply_awaited, reply_for, after_step}
use Rattle.never_stuck.specs.Reaching.{AllGiven, answer, reply_by}
use Rattle.table_rule.specs.Picture.{AnswerOnce}
use Rattle.table_rule.specs.Reached.{Agrees, IsHistoryOfRun, IsRunOfCore}
use Rattle.schedules.specs.Replays.{AgreesAsAsked, HasSchedule}
use Rattle.schedules.proofs.AskedFor.{retold_run}

module _ (p : PlanParts) (answers : List (ℕ × Reply)) where
  -- what is awaited is what was handed in for it
  same_reply : (awaits : Option ℕ) → reply_by (reply_of answers) awaits ≡ reply_awaited answers awaits
  same_reply None = refl
  same_reply (Some job) = refl

  same_step : (s : State) (w : ℕ) (a : Action) (r : Reply) → ((seat : Seat) → slice_get s.seats w ≡ Some seat → r ≡ answer p (reply_of answers) seat) → after_step p answers s (Worker (suc w) a) ≡ after p s (Works w a r)
  same_step s w a r gives =
      (λ k. cond (not_zero k) None (option_and_then (λ (seat : Seat). after_seat p s (suc w - 1) a (reply_for p answers seat) seat) (slice_get s.seats (suc w - 1))))
      ∙ (λ k. option_and_then (λ (seat : Seat). after_seat p s (one_less k) a (reply_for p answers seat) seat) (slice_get s.seats (one_less k)))
      ∙ go (slice_get s.seats w) gives
    where
      not_zero : (suc w == 0) ≡ false
      not_zero = ne_eqb (suc w) 0 (λ e. omega (arith, e))

      one_less : suc w - 1 ≡ w
      one_less = omega arith

      go : (found : Option Seat) → ((seat : Seat) → found ≡ Some seat → r ≡ answer p (reply_of answers) seat) → option_and_then (λ (seat : Seat). after_seat p s w a (reply_for p answers seat) seat) found ≡ option_and_then (after_seat p s w a r) found
      go None gives = refl
      go (Some seat) gives = ap (λ (x : Reply). after_seat p s w a x seat) (sym (gives seat refl ∙ same_reply (awaited p seat seat.task)))

  record Taken (s t : State) : Type 0 where
    pub steps : List Step
    pub leads : run p answers s steps ≡ t
    pub all : passed_over p answers s steps ≡ 0
    pub none_idle : free_looks p answers s steps ≡ 0

  none_more : (n : ℕ) → 0 + n ≡ n
  none_more n = omega arith

  first : (s u t : State) (a : Step) → after_step p answers s a ≡ Some u → finds_nothing s a ≡ false → Taken u t → Taken s t
  first s u t a q busy x = record {
    steps = a ∷ x.steps;
    leads = ap (λ (o : Option State). run p answers (state_or s o) x.steps) q ∙ x.leads;
    all = (λ k. missed (q k) + passed_over p answers (state_or s (q k)) x.steps) ∙ none_more (passed_over p answers u x.steps) ∙ x.all;
    none_idle = (λ k. bit (busy k) + free_looks p answers (state_or s (q k)) x.steps) ∙ none_more (free_looks p answers u x.steps) ∙ x.none_idle;
  }

  -- a free worker that looks for work leaves the state as it is
  idle_same : (s : State) (w : ℕ) (a : Action) (r : Reply) (u : State) → looks_free a (slice_get s.seats w) ≡ true → after p s (Works w a r) ≡ Some u → u ≡ s
  idle_same s w Look r u idle q = go (slice_get s.seats w) refl idle
    where
      go : (found : Option Seat) → slice_get s.seats w ≡ found → looks_free Look found ≡ true → u ≡ s
      go None at i = absurd (false≢true i)
      go (Some seat) at i = by_task seat at seat.task refl i
        where
          by_task : (seat : Seat) → slice_get s.seats w ≡ Some seat → (t : Task) → seat.task ≡ t → is_free t ≡ true → u ≡ s
          by_task seat at Free e free = sym (same_Some s u (sym (after_direct p s w Look r seat at ∙ (λ k. look_row p s w (decided_seat p r seat) (decided p r (e k)))) ∙ q))
          by_task seat at (Opens n d) e free = absurd (false≢true free)
          by_task seat at (Closes n d) e free = absurd (false≢true free)
  idle_same s w (Claim n) r u idle q = absurd (false≢true idle)
  idle_same s w (Own n) r u idle q = absurd (false≢true idle)
  idle_same s w _ r u idle q = absurd (false≢true idle)

  seat_at : (s : State) (w : ℕ) → seat_of s (suc w) ≡ slice_get s.seats w
  seat_at s w = (λ k. cond (not_zero k) None (slice_get s.seats (suc w - 1))) ∙ (λ k. slice_get s.seats (one_less k))
    where
      not_zero : (suc w == 0) ≡ false
      not_zero = ne_eqb (suc w) 0 (λ e. omega (arith, e))

      one_less : suc w - 1 ≡ w
      one_less = omega arith

  -- a step that is there is kept, but for such a look; one that is not is left out
  one_step : (s t : State) (a : Step) (found : Option State) → after_step p answers s a ≡ found → ((u : State) → finds_nothing s a ≡ true → found ≡ Some u → u ≡ s) → Taken (or_stays s found) t → Taken s t
  one_step s t a None q idle x = x
  one_step s t a (Some u) q idle x = by_look (finds_nothing s a) refl
    where
      by_look : (b : Bool) → finds_nothing s a ≡ b → Taken s t
      by_look false busy = first s u t a q busy x
      by_look true free = subst (λ (z : State). Taken z t) (idle u free refl) x

  taken : (s : State) (list : List rows.Step) → AllGiven p (reply_of answers) s list → Taken s (runs.run p s list)
  taken s [] given = record { steps = []; leads = refl; all = refl; none_idle = refl }
  taken s (Works w a r ∷ list) given =
      one_step s (runs.run p (or_stays s (after p s (Works w a r))) list) (Worker (suc w) a) (after p s (Works w a r)) (same_step s w a r given.0)
      (λ u free q. idle_same s w a r u (ap (looks_free a) (sym (seat_at s w)) ∙ free) q) (taken (or_stays s (after p s (Works w a r))) list given.1)
  taken s (Dispatches ∷ list) given = one_step s (runs.run p (or_stays s (after p s Dispatches)) list) Read (after p s Dispatches) refl (λ u free q. absurd (false≢true free)) (taken (or_stays s (after p s Dispatches)) list given.1)

  -- So many of them at most, of a plan that is free of conflict; and of any with a try's steps more for each time that a worker was turned back.
  few_steps : (plan : IsPlan p) (workers : ℕ) → workers ≤ 64 → (steps : List Step) → passed_over p answers (opening p workers) steps ≡ 0 → free_looks p answers (opening p workers) steps ≡ 0 → IsFreeOfConflict p → length steps ≤ most_steps_apart p workers
  few_steps plan workers few steps all none_idle apart = (let short = short_run p plan answers workers few steps apart in omega (arith, short, all, none_idle))

  few_tries : (plan : IsPlan p) (workers : ℕ) → workers ≤ 64 → (steps : List Step) → passed_over p answers (opening p workers) steps ≡ 0 → free_looks p answers (opening p workers) steps ≡ 0
      → length steps ≤ most_steps p workers + times_turned_back p answers (opening p workers) steps * steps_of_a_try p
  few_tries plan workers few steps all none_idle = plain _ _ _ _ (bounded_run p plan answers workers few steps) all none_idle
    where
      plain : (n passed idle most : ℕ) → n ≤ passed + idle + most → passed ≡ 0 → idle ≡ 0 → n ≤ most
      plain n passed idle most some none no_look = omega (arith, some, none, no_look)

  -- Where each job has the answer that is handed in, it has one.
  by_answers : IsPlan p → (workers : ℕ) → workers ≤ 64 → (events : List Event) → IsHistoryOfRun p workers (reply_of answers) events → HasSchedule p answers workers events
  by_answers plan workers few events x =
      let y = taken (opening p workers) x.steps x.replied in
      record { steps = y.steps; all_taken = y.all; short = few_steps plan workers few y.steps y.all y.none_idle; bounded = few_tries plan workers few y.steps y.all y.none_idle; published = ap (λ (s : State). s.published) y.leads ∙ x.drawn; given = ap (λ (s : State). s.given) y.leads ∙ x.given }

  abbrev first_or : Reply → List Reply → Reply
  first_or other [] = other
  first_or other (reply ∷ more) = reply

  module _ (told : ℕ → List Reply) (once : AnswerOnce told) (agrees : AgreesAsAsked p told (reply_of answers)) where
    -- what each job told; of those that told nothing, the answer that is handed in
    abbrev reply : ℕ → Reply
    reply job = first_or (reply_of answers job) (told job)

    as_told : Agrees told reply
    as_told job i r at = ap (first_or (reply_of answers job)) (once job i r at)

    outcomes : (job : ℕ) → (reply job).outcome ≡ (reply_of answers job).outcome
    outcomes job = by (told job) refl
      where
        by : (list : List Reply) → told job ≡ list → (first_or (reply_of answers job) list).outcome ≡ (reply_of answers job).outcome
        by [] e = refl
        by (r ∷ more) e = agrees.outcomes job 0 r (ap (λ l. slice_get l 0) e)

    pulled : (n job : ℕ) → pulls_job p n ≡ true → body_of p.tree n ≡ Some job → reply job ≡ reply_of answers job
    pulled n job pulls is = by (told job) refl
      where
        by : (list : List Reply) → told job ≡ list → first_or (reply_of answers job) list ≡ reply_of answers job
        by [] e = refl
        by (r ∷ more) e = agrees.pulled n job 0 r pulls is (ap (λ l. slice_get l 0) e)

    with_answers : IsTree p.tree → (workers : ℕ) → workers ≤ 64 → (events : List Event) → IsRunOfCore p workers told events → IsHistoryOfRun p workers (reply_of answers) events
    with_answers tree workers few events ran = retold_run p tree reply (reply_of answers) outcomes pulled workers few events (ran reply as_told)

  -- So it has one where the answers that are handed in agree with what the jobs told, as far as the core asks for it.
  pub scheduled : IsPlan p → (workers : ℕ) → workers ≤ 64 → (told : ℕ → List Reply) (events : List Event) → AnswerOnce told → IsRunOfCore p workers told events → AgreesAsAsked p told (reply_of answers) → HasSchedule p answers workers events
  scheduled plan workers few told events once ran agrees = by_answers plan workers few events (with_answers told once agrees plan.tree workers few events ran)

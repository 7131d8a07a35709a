-- Of a reply the core asks for the outcome, and for the pulls of a factory's job alone: with replies that agree as far as that, a run is the same.
use Rattle.std.specs.Prelude.{option_and_then}
use Rattle.std.proofs.Common.{◌≡◌, ◌≤◌, ℕ, cond, Bool, true, false, not, ◌||◌, List, [], ◌∷◌, Option, Some, None, slice_get, refl, sym, ap, ◌∙◌, subst}
use Rattle.std.proofs.lemmas.Bool.{false≢true}
use Rattle.descriptor.specs.Nodes.{IsTree, body_of}
use Rattle.plan_events.specs.Statuses.{is_successful}
use Rattle.plan_events.specs.declared.event.Event.{Event}
use Rattle.plan_events.specs.declared.outcome.Reply.{Reply}
use Rattle.plan_events.specs.declared.status.Status.{Status}
use Rattle.resource_locks.specs.Plans.{PlanParts}
use Rattle.event_history.specs.Plans.{pulls_job, sort_of}
use Rattle.scheduling.specs.declared.seat.Hand.{Hand}
use Rattle.scheduling.specs.declared.seat.Seat.{Seat}
use Rattle.scheduling.specs.declared.step.Action.{Action}
use Rattle.scheduling.specs.declared.step.Action.TheVariants.{AddChild, Done}
use Rattle.scheduling.specs.declared.task.Closing.TheVariants.{AwaitingAfter, Ending, CountingOff}
use Rattle.scheduling.specs.declared.task.Opening.TheVariants.{Awaiting, Guarding}
use Rattle.scheduling.specs.declared.task.Task.{Task}
use Rattle.scheduling.specs.declared.task.Task.TheVariants.{Free, Opens, Closes}
use Rattle.scheduling.specs.Choices.{is_leaf, status_by, admit_from, decided, awaited, hand_job}
use Rattle.scheduling.specs.Rows.{Step, Works, Dispatches, is_free, with_task, goes_to, add_child_row, done_row, row, decided_seat, after_seat, after}
use Rattle.scheduling.specs.Runs.{opening, or_stays, next, run}
use Rattle.scheduling.specs.State.{State}
use Rattle.scheduling.specs.Inside.Invariant.{HandOk, IsInHand, IsKept, ShapeOk}
use Rattle.scheduling.proofs.FirstState.{opening_is}
use Rattle.scheduling.proofs.Headline.{core_plan, run_keeps}
use Rattle.never_stuck.specs.Reaching.{AllGiven, IsGivenReply, answer, only, reply_by}
use Rattle.never_stuck.proofs.Reach.{replied_all}
use Rattle.table_rule.specs.Reached.{IsHistoryOfRun}

-- A reply decides a task by its outcome.
module _ (p : PlanParts) (first last : Reply) (same : first.outcome ≡ last.outcome) where
  status_same : (body : Option ℕ) → status_by body first ≡ status_by body last
  status_same None = refl
  status_same (Some job) = ap (λ o. o.status) same

  decided_same : (t : Task) → decided p first t ≡ decided p last t
  decided_same Free = refl
  decided_same (Opens n Awaiting) = ap (λ (s : Status). cond (is_leaf (sort_of p.tree n) || not (is_successful s)) (Closes n (Ending s)) (Opens n (admit_from p n 0))) (status_same (body_of p.tree n))
  decided_same (Closes n AwaitingAfter) = ap (λ o. Closes n (Ending o.status)) same
  decided_same (Opens n _) = refl
  decided_same (Closes n _) = refl

-- a task that waits for the reply of a job is not free once that has decided it
cond_free : (b : Bool) (t u : Task) → is_free t ≡ false → is_free u ≡ false → is_free (cond b t u) ≡ false
cond_free true t u first last = first
cond_free false t u first last = last

decided_free : (p : PlanParts) (reply : Reply) (t : Task) → is_free t ≡ false → is_free (decided p reply t) ≡ false
decided_free p reply Free busy = busy
decided_free p reply (Opens n Awaiting) busy = cond_free (is_leaf (sort_of p.tree n) || not (is_successful (status_by (body_of p.tree n) reply))) (Closes n (Ending (status_by (body_of p.tree n) reply))) (Opens n (admit_from p n 0)) refl refl
decided_free p reply (Closes n AwaitingAfter) busy = refl
decided_free p reply (Opens n _) busy = refl
decided_free p reply (Closes n _) busy = refl

-- where a task is not free, no step asks for a reply
module _ (p : PlanParts) (s : State) (w : ℕ) (seat : Seat) (first last : Reply) where
  added_same : (t : Task) → is_free t ≡ false → add_child_row p s w seat first t ≡ add_child_row p s w seat last t
  added_same Free busy = absurd (false≢true (sym busy))
  added_same (Opens n d) busy = refl
  added_same (Closes n d) busy = refl

  done_same : (t : Task) → is_free t ≡ false → done_row p s w seat first t ≡ done_row p s w seat last t
  done_same Free busy = absurd (false≢true (sym busy))
  done_same (Opens n Guarding) busy = refl
  done_same (Closes n CountingOff) busy = refl
  done_same (Opens n _) busy = refl
  done_same (Closes n _) busy = refl

  row_same : (a : Action) → is_free seat.task ≡ false → row p s w seat first a ≡ row p s w seat last a
  row_same AddChild busy = added_same seat.task busy
  row_same Done busy = done_same seat.task busy
  row_same _ busy = refl

-- How the replies agree: on each outcome, and of a factory's job on all.
module _ (p : PlanParts) (tree : IsTree p.tree) (reply other : ℕ → Reply) (outcomes : (job : ℕ) → (reply job).outcome ≡ (other job).outcome) (pulled : (n job : ℕ) → pulls_job p n ≡ true → body_of p.tree n ≡ Some job → reply job ≡ other job) where
  abbrev replies : ℕ → List Reply
  replies = only reply

  outcome_same : (job : Option ℕ) → (reply_by reply job).outcome ≡ (reply_by other job).outcome
  outcome_same None = refl
  outcome_same (Some job) = outcomes job

  -- what a factory in hand asks for
  body_same : (n : ℕ) → pulls_job p n ≡ true → (body : Option ℕ) → body_of p.tree n ≡ body → reply_by reply body ≡ reply_by other body
  body_same n pulls None is = refl
  body_same n pulls (Some job) is = pulled n job pulls is

  hand_same : (s : State) (kept : IsKept p replies s) (w : ℕ) (hand : Option Hand) → HandOk p kept.0 s.published w hand → reply_by reply (hand_job p hand) ≡ reply_by other (hand_job p hand)
  hand_same s kept w None ok = refl
  hand_same s kept w (Some hand) ok =
      let in_hand : IsInHand p kept.0 s.published w hand = ok in
      body_same hand.factory (subst (ShapeOk p replies s.published hand.factory) in_hand.at (kept.1.shapes hand.factory in_hand.inside)) (body_of p.tree hand.factory) refl

  module _ (s : State) (kept : IsKept p replies s) (w : ℕ) (a : Action) (seat : Seat) (is : slice_get s.seats w ≡ Some seat) where
    abbrev one : Reply
    one = answer p reply seat

    abbrev two : Reply
    two = answer p other seat

    busy_same : is_free seat.task ≡ false → after_seat p s w a one seat ≡ after_seat p s w a two seat
    busy_same busy =
        (λ i. row p (record s { seats = goes_to s w (with_task seat (decided_same p one two (outcome_same (awaited p seat seat.task)) seat.task i)) }) w (with_task seat (decided_same p one two (outcome_same (awaited p seat seat.task)) seat.task i)) one a)
        ∙ row_same p (record s { seats = goes_to s w (decided_seat p two seat) }) w (decided_seat p two seat) one two a (decided_free p two seat.task busy)

    free_same : seat.task ≡ Free → after_seat p s w a one seat ≡ after_seat p s w a two seat
    free_same free =
        let job : awaited p seat seat.task ≡ hand_job p seat.hand = ap (awaited p seat) free in
        let same : one ≡ two = ap (reply_by reply) job ∙ (hand_same s kept w seat.hand (kept.1.seats w seat is).hand ∙ sym (ap (reply_by other) job)) in
        ap (λ (r : Reply). after_seat p s w a r seat) same

    by_task : (t : Task) → seat.task ≡ t → after_seat p s w a one seat ≡ after_seat p s w a two seat
    by_task Free e = free_same e
    by_task (Opens n d) e = busy_same (ap is_free e)
    by_task (Closes n d) e = busy_same (ap is_free e)

    step_same : after_seat p s w a one seat ≡ after_seat p s w a two seat
    step_same = by_task seat.task refl

  -- The same step, with the other reply.
  abbrev other_for : Option Seat → Reply → Reply
  other_for None r = r
  other_for (Some seat) r = answer p other seat

  abbrev other_step : State → Step → Step
  other_step s (Works w a r) = Works w a (other_for (slice_get s.seats w) r)
  other_step s Dispatches = Dispatches

  other_given : (s : State) (a : Step) → IsGivenReply p other s (other_step s a)
  other_given s (Works w a r) = λ seat at. ap (λ o. other_for o r) at
  other_given s Dispatches = tt

  after_same : (s : State) → IsKept p replies s → (a : Step) → IsGivenReply p reply s a → after p s (other_step s a) ≡ after p s a
  after_same s kept Dispatches given = refl
  after_same s kept (Works w a r) given = go (slice_get s.seats w) refl
    where
      go : (found : Option Seat) → slice_get s.seats w ≡ found → option_and_then (after_seat p s w a (other_for found r)) found ≡ option_and_then (after_seat p s w a r) found
      go None at = refl
      go (Some seat) at = sym (ap (λ (x : Reply). after_seat p s w a x seat) (given seat at) ∙ step_same s kept w a seat at)

  record Retold (s : State) (list : List Step) : Type 0 where
    pub steps : List Step
    pub given : AllGiven p other s steps
    pub leads : run p s steps ≡ run p s list

  retold : (s : State) → IsKept p replies s → (list : List Step) → AllGiven p reply s list → Retold s list
  retold s kept [] given = record { steps = []; given = tt; leads = refl }
  retold s kept (a ∷ list) given =
      let then : IsKept p replies (next p s a) = run_keeps p (core_plan p tree) replies s (a ∷ []) kept (replied_all p reply replies (λ job. refl) s (a ∷ []) (given.0, tt)) in
      let rest = retold (next p s a) then list given.1 in
      let same : next p s (other_step s a) ≡ next p s a = ap (or_stays s) (after_same s kept a given.0) in
      record {
        steps = other_step s a ∷ rest.steps;
        given = (other_given s a, subst (λ (z : State). AllGiven p other z rest.steps) (sym same) rest.given);
        leads = ap (λ (z : State). run p z rest.steps) same ∙ rest.leads;
      }

  pub retold_run : (workers : ℕ) → workers ≤ 64 → (events : List Event) → IsHistoryOfRun p workers reply events → IsHistoryOfRun p workers other events
  retold_run workers few events run_of =
      let x = retold (opening p workers) (opening_is p (core_plan p tree) replies workers few) run_of.steps run_of.replied in
      record { steps = x.steps; replied = x.given; drawn = ap (λ (s : State). s.published) x.leads ∙ run_of.drawn; given = ap (λ (s : State). s.given) x.leads ∙ run_of.given }

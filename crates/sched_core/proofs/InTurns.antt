-- The schedule of several workers is deterministic: each turn, each round, and so the whole leads to one state only.
use Rattle.std.proofs.Common.{◌≡◌, ◌∙◌, ◌<◌, ◌+◌, ℕ, zero, suc, Bool, false, List, Option, Some, None, slice_get, inl, inr, refl, sym, ap, subst, arith}
use Rattle.std.proofs.lemmas.Bool.{both_ways, cases_eq, cases_lt}
use Rattle.std.proofs.lemmas.Option.{same_Some, none-some}
use Rattle.plan_events.specs.declared.outcome.Reply.{Reply}
use Rattle.resource_locks.specs.Plans.{PlanParts}
use Rattle.scheduling.specs.declared.seat.Hand.{Hand}
use Rattle.scheduling.specs.declared.seat.Seat.{Seat}
use Rattle.scheduling.specs.declared.step.Action.{Action}
use Rattle.scheduling.specs.declared.step.Step.TheVariants.{Worker}
use Rattle.scheduling.specs.declared.task.Task.{Task}
use Rattle.scheduling.specs.declared.task.Task.TheVariants.{Free, Opens, Closes}
use Rattle.scheduling.specs.Choices.{decided}
use Rattle.scheduling.specs.Rows.{read_row}
use Rattle.scheduling.specs.Runs.{opening}
use Rattle.scheduling.specs.Schedule.{taking}
use Rattle.scheduling.specs.State.{State, status_at}
use Rattle.scheduling.proofs.Scheduled.{drives_only}
use Rattle.termination.specs.Inside.Accounts.{steps_left}
use Rattle.termination.specs.Inside.Turns.{IsBetweenTurns}
use Rattle.termination.specs.Turns.{takes_keys, IsFirstToTake, NextNode, NextWaited, NextWaiting, NextInTurn}
use Rattle.sched_core.specs.declared.trace.Trace.{Trace}
use Rattle.sched_core.specs.Drives.{reply_given}
use Rattle.sched_core.specs.InTurns.{IsNextInTurn, IsIdle, IsStepInTurn, is_taking_keys, TakesKeys, has_all, takes_one, IsTurn, passes, takes, IsRound, begins, serves, Rounds, rests, goes, Schedules, IsScheduled, IsOnlyScheduled}
use Rattle.sched_core.specs.Runs.{state_or}
use Rattle.sched_core.specs.Steps.{reply_for, after_step}
use Rattle.sched_core.specs.Traces.{IsTraceOf}

-- A worker has one next step, or none.
module _ (p : PlanParts) (s : State) (w : ℕ) where
  first_one : (n m : ℕ) → IsFirstToTake p s w n → IsFirstToTake p s w m → n ≡ m
  first_one n m a b =
      elim (cases_lt n m) [
        | inl lt ↦ absurd (b.first n lt a.may)
        | inr ge ↦ elim (cases_lt m n) [
          | inl lt ↦ absurd (a.first m lt b.may)
          | inr le ↦ omega (arith, ge, le)
        ]
      ]

  node_one : (a b : Option Action) → NextNode p s w a → NextNode p s w b → a ≡ b
  node_one None None x y = refl
  node_one None (Some b) x y = absurd (x y.0 y.1.inside y.1.may)
  node_one (Some a) None x y = absurd (y x.0 x.1.inside x.1.may)
  node_one (Some a) (Some b) x y = ap Some (x.2 ∙ ap (λ (n : ℕ). taking (status_at s n) n) (first_one x.0 y.0 x.1 y.1) ∙ sym y.2)

  waited_one : (c : ℕ) (a b : Option Action) → NextWaited p s c a → NextWaited p s c b → a ≡ b
  waited_one c None None x y = refl
  waited_one c None (Some b) x y = absurd (x y.0)
  waited_one c (Some a) None x y = absurd (y x.0)
  waited_one c (Some a) (Some b) x y = ap Some (x.1 ∙ sym y.1)

  waiting_one : (reply : Reply) (hand : Hand) (waiting : Option ℕ) (a b : Option Action) → NextWaiting p s reply hand waiting a → NextWaiting p s reply hand waiting b → a ≡ b
  waiting_one reply hand None a b x y = x ∙ sym y
  waiting_one reply hand (Some c) a b x y = waited_one c a b x y

  next_one : (reply : Reply) (hand : Option Hand) (t : Task) (a b : Option Action) → NextInTurn p s w reply hand t a → NextInTurn p s w reply hand t b → a ≡ b
  next_one reply None Free a b x y = node_one a b x y
  next_one reply (Some hand) Free a b x y = waiting_one reply hand hand.waiting a b x y
  next_one reply hand (Opens n d) a b x y = x ∙ sym y
  next_one reply hand (Closes n d) a b x y = x ∙ sym y

module _ (p : PlanParts) (answers : List (ℕ × Reply)) where
  in_turn_one : (s : State) (w : ℕ) (seat : Seat) (a b : Option Action) → IsNextInTurn p answers s w seat a → IsNextInTurn p answers s w seat b → a ≡ b
  in_turn_one s w seat a b x y = next_one p s w (reply_for p answers seat) seat.hand (decided p (reply_for p answers seat) seat.task) a b x y

  module _ (w : ℕ) where
    step_one : (s t u : State) → IsStepInTurn p answers w s t → IsStepInTurn p answers w s u → t ≡ u
    step_one s t u a b =
        let seat : a.seat ≡ b.seat = same_Some a.seat b.seat (sym a.at ∙ b.at) in
        let action : a.action ≡ b.action = same_Some a.action b.action (in_turn_one s w b.seat (Some a.action) (Some b.action) (subst (λ (x : Seat). IsNextInTurn p answers s w x (Some a.action)) seat a.next) b.next) in
        same_Some t u (sym a.leads ∙ ap (λ (x : Action). after_step p answers s (Worker (w + 1) x)) action ∙ b.leads)

    not_idle : (s t : State) → IsIdle p answers s w → IsStepInTurn p answers w s t → ⊥
    not_idle s t idle a = none-some a.action (in_turn_one s w a.seat None (Some a.action) (idle a.seat a.at) a.next)

    keys_one : (s t u : State) → TakesKeys p answers w s t → TakesKeys p answers w s u → t ≡ u
    keys_one s t u (has_all no') (has_all no2) = refl
    keys_one s t u (has_all no') (takes_one yes' b more) = absurd (both_ways _ no' yes')
    keys_one s t u (takes_one yes' a more) (has_all no') = absurd (both_ways _ no' yes')
    keys_one s t u (takes_one yes' a more) (takes_one yes2 b more2) = keys_one _ t u more (subst (λ (x : State). TakesKeys p answers w x u) (sym (step_one s _ _ a b)) more2)

    turn_one : (s t u : State) → IsTurn p answers w s t → IsTurn p answers w s u → t ≡ u
    turn_one s t u (passes idle) (passes idle2) = refl
    turn_one s t u (passes idle) (takes b more) = absurd (not_idle s _ idle b)
    turn_one s t u (takes a more) (passes idle) = absurd (not_idle s _ idle a)
    turn_one s t u (takes a more) (takes b more2) = keys_one _ t u more (subst (λ (x : State). TakesKeys p answers w x u) (sym (step_one s _ _ a b)) more2)

  round_one : (k : ℕ) (s t u : State) → IsRound p answers k s t → IsRound p answers k s u → t ≡ u
  round_one zero s t u begins begins = refl
  round_one (suc k) s t u (serves a turn) (serves b turn2) =
      turn_one k _ t u turn (subst (λ (x : State). IsTurn p answers k (state_or x (read_row x)) u) (sym (round_one k s _ _ a b)) turn2)

  rounds_one : (workers : ℕ) (s t u : State) → Rounds p answers workers s t → Rounds p answers workers s u → t ≡ u
  rounds_one workers s t u (rests a) (rests b) = refl
  rounds_one workers s t u (rests a) (goes b other more) = absurd (other (round_one workers s _ s b a))
  rounds_one workers s t u (goes a other more) (rests b) = absurd (other (round_one workers s _ s a b))
  rounds_one workers s t u (goes a other more) (goes b other2 more2) = rounds_one workers _ t u more (subst (λ (x : State). Rounds p answers workers x u) (sym (round_one workers s _ _ a b)) more2)

  schedules_one : (workers : ℕ) (s t u : State) → Schedules p answers workers s t → Schedules p answers workers s u → t ≡ u
  schedules_one workers s t u a b = elim (cases_eq workers 1) [
    | inl one ↦ drives_only p (reply_given p answers) s t u (a.one one) (b.one one)
    | inr several ↦ rounds_one workers s t u (a.several several) (b.several several)
  ]

  -- of another number, and from another state, that are the same
  pub schedules_from : (k workers : ℕ) → k ≡ workers → (s t : State) → s ≡ opening p workers → Schedules p answers k s t → Schedules p answers workers (opening p workers) t
  schedules_from k workers same s t from a = subst (λ (x : State). Schedules p answers workers x t) from (subst (λ (n : ℕ). Schedules p answers n s t) same a)

  -- so what is scheduled is scheduled to each state in which the schedule ends
  pub only_scheduled : (workers : ℕ) (t : Trace) → IsScheduled p answers workers t → IsOnlyScheduled p answers workers t
  only_scheduled workers t is final schedules = subst (λ (s : State). IsTraceOf s 0 t) (schedules_one workers (opening p workers) is.final final is.schedules schedules) is.trace

  -- One more round: it leaves less to do, or nothing has changed.
  module _ (workers k : ℕ) (same : k ≡ workers) (s t : State) (round : IsRound p answers k s t) where
    its_round : IsRound p answers workers s t
    its_round = subst (λ (n : ℕ). IsRound p answers n s t) same round

    pub round_goes : steps_left p t < steps_left p s → (u : State) → Rounds p answers workers t u → Rounds p answers workers s u
    round_goes less u more = goes its_round (λ z. (let none = ap (steps_left p) z in omega (arith, less, none))) more

    pub round_rests : t ≡ s → Rounds p answers workers s t
    round_rests none = subst (Rounds p answers workers s) (sym none) (rests (subst (IsRound p answers workers s) none its_round))

-- One more worker has its turn.
pub one_more : (p : PlanParts) (answers : List (ℕ × Reply)) (w : ℕ) (s t u : State) → IsRound p answers w s t → IsTurn p answers w (state_or t (read_row t)) u → IsRound p answers (w + 1) s u
one_more p answers w s t u round turn = (let next : suc w ≡ w + 1 = omega arith in subst (λ (k : ℕ). IsRound p answers k s u) next (serves round turn))

-- Who sits there takes keys, or not.
pub takes_there : (s : State) (w : ℕ) (seat : Seat) → slice_get s.seats w ≡ Some seat → (b : Bool) → takes_keys seat.task ≡ b → is_taking_keys (slice_get s.seats w) ≡ b
takes_there s w seat at b is = ap is_taking_keys at ∙ is

-- Between turns nobody takes keys.
pub has_all_keys : (s : State) (w : ℕ) → IsBetweenTurns s → is_taking_keys (slice_get s.seats w) ≡ false
has_all_keys s w between = go (slice_get s.seats w) refl
  where
    go : (found : Option Seat) → slice_get s.seats w ≡ found → is_taking_keys found ≡ false
    go None at = refl
    go (Some seat) at = between w seat at

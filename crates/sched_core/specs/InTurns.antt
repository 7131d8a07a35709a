-- The fixed schedule of so many workers, where each job has the reply that was handed in for it: one alone takes the steps of its own
-- schedule, several take turns.
use Rattle.std.specs.Prelude.{◌≡◌, ◌≢◌, ℕ, zero, suc, ◌+◌, Bool, true, false, List, Option, Some, None, slice_get}
use Rattle.plan_events.specs.declared.outcome.Reply.{Reply}
use Rattle.resource_locks.specs.Plans.{PlanParts}
use Rattle.scheduling.specs.declared.seat.Seat.{Seat}
use Rattle.scheduling.specs.declared.step.Action.{Action}
use Rattle.scheduling.specs.declared.step.Step.TheVariants.{Worker}
use Rattle.scheduling.specs.Choices.{decided}
use Rattle.scheduling.specs.Rows.{read_row}
use Rattle.scheduling.specs.Runs.{opening}
use Rattle.scheduling.specs.State.{State}
use Rattle.termination.specs.Turns.{NextInTurn, takes_keys}
use Rattle.sched_core.specs.declared.trace.Trace.{Trace}
use Rattle.sched_core.specs.Drives.{Drives}
use Rattle.sched_core.specs.Runs.{state_or}
use Rattle.sched_core.specs.Steps.{reply_for, after_step}
use Rattle.sched_core.specs.Traces.{IsTraceOf}

-- what the worker at place w does in its turn, in this seat
abbrev pub IsNextInTurn : PlanParts → List (ℕ × Reply) → State → ℕ → Seat → Option Action → Type 0
IsNextInTurn p answers s w seat found = NextInTurn p s w (reply_for p answers seat) seat.hand (decided p (reply_for p answers seat) seat.task) found

-- it has nothing to do
abbrev pub IsIdle : PlanParts → List (ℕ × Reply) → State → ℕ → Type 0
IsIdle p answers s w = (seat : Seat) → slice_get s.seats w ≡ Some seat → IsNextInTurn p answers s w seat None

-- it takes the step that is its next
pub record IsStepInTurn (p : PlanParts) (answers : List (ℕ × Reply)) (w : ℕ) (s t : State) : Type 0 where
  pub seat : Seat
  pub at : slice_get s.seats w ≡ Some seat
  pub action : Action
  pub next : IsNextInTurn p answers s w seat (Some action)
  pub leads : after_step p answers s (Worker (w + 1) action) ≡ Some t

abbrev pub is_taking_keys : Option Seat → Bool
is_taking_keys None = false
is_taking_keys (Some seat) = takes_keys seat.task

-- it takes further steps as long as it takes keys
pub data TakesKeys (p : PlanParts) (answers : List (ℕ × Reply)) (w : ℕ) : State → State → Type 0 where
  has_all : {s : State} → is_taking_keys (slice_get s.seats w) ≡ false → TakesKeys p answers w s s
  takes_one : {s t u : State} → is_taking_keys (slice_get s.seats w) ≡ true → IsStepInTurn p answers w s t → TakesKeys p answers w t u → TakesKeys p answers w s u

-- A turn: one step, and where a node is taken, all its keys; or nothing, if there is nothing to do.
pub data IsTurn (p : PlanParts) (answers : List (ℕ × Reply)) (w : ℕ) : State → State → Type 0 where
  passes : {s : State} → IsIdle p answers s w → IsTurn p answers w s s
  takes : {s t u : State} → IsStepInTurn p answers w s t → TakesKeys p answers w t u → IsTurn p answers w s u

-- A round: each of the first so many workers has its turn, and before it the dispatcher reads the next event, if it is shown.
pub data IsRound (p : PlanParts) (answers : List (ℕ × Reply)) : ℕ → State → State → Type 0 where
  begins : {s : State} → IsRound p answers zero s s
  serves : {w : ℕ} {s t u : State} → IsRound p answers w s t → IsTurn p answers w (state_or t (read_row t)) u → IsRound p answers (suc w) s u

-- Rounds, until one in which nothing is done.
pub data Rounds (p : PlanParts) (answers : List (ℕ × Reply)) (workers : ℕ) : State → State → Type 0 where
  rests : {s : State} → IsRound p answers workers s s → Rounds p answers workers s s
  goes : {s t u : State} → IsRound p answers workers s t → t ≢ s → Rounds p answers workers t u → Rounds p answers workers s u

-- From the one state the fixed schedule of so many workers ends in the other.
pub record Schedules (p : PlanParts) (answers : List (ℕ × Reply)) (workers : ℕ) (s t : State) : Type 0 where
  pub one : workers ≡ 1 → Drives p answers s t
  pub several : workers ≢ 1 → Rounds p answers workers s t

-- the trace of the fixed schedule, none of whose steps is passed over
pub record IsScheduled (p : PlanParts) (answers : List (ℕ × Reply)) (workers : ℕ) (t : Trace) : Type 0 where
  pub final : State
  pub schedules : Schedules p answers workers (opening p workers) final
  pub trace : IsTraceOf final 0 t

-- it is the trace of whatever state the fixed schedule ends in: the schedule is deterministic
abbrev pub IsOnlyScheduled : PlanParts → List (ℕ × Reply) → ℕ → Trace → Type 0
IsOnlyScheduled p answers workers t = (final : State) → Schedules p answers workers (opening p workers) final → IsTraceOf final 0 t

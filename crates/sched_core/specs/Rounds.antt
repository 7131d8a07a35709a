-- What the trace of many workers that take turns tells.
use Rattle.std.specs.Prelude.{◌≡◌, ℕ, ◌≤◌, List, length}
use Rattle.plan_events.specs.declared.outcome.Reply.{Reply}
use Rattle.resource_locks.specs.Plans.{PlanParts}
use Rattle.resource_locks.specs.Spares.{HasFreeSpares}
use Rattle.scheduling.specs.declared.step.Step.{Step}
use Rattle.scheduling.specs.Runs.{opening}
use Rattle.scheduling.specs.Shown.{IsShown}
use Rattle.termination.specs.Bounds.{most_steps}
use Rattle.sched_core.specs.declared.trace.Trace.{Trace}
use Rattle.sched_core.specs.Runs.{run, passed_over}
use Rattle.sched_core.specs.Traces.{IsTraceOf, IsWhole}

-- It is the trace of steps of so many workers, of which none is passed over; there are no more of them than the plan and the number of
-- workers say; and what was given was shown.
pub record IsTakenWhole (p : PlanParts) (answers : List (ℕ × Reply)) (workers : ℕ) (t : Trace) : Type 0 where
  pub steps : List Step
  pub few : length steps ≤ most_steps p workers
  pub all : passed_over p answers (opening p workers) steps ≡ 0
  pub trace : IsTraceOf (run p answers (opening p workers) steps) 0 t
  pub shown : IsShown (run p answers (opening p workers) steps) t.given.items

-- If no spare holds a key it is of the whole plan.
abbrev pub EndsWhole : PlanParts → Trace → Type 0
EndsWhole p t = HasFreeSpares p → IsWhole p t

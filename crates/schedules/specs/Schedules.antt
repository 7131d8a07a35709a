-- When a list of steps is a schedule of a history.
use Rattle.std.specs.Prelude.{◌≡◌, ℕ, List}
use Rattle.plan_events.specs.declared.event.Event.{Event}
use Rattle.plan_events.specs.declared.outcome.Reply.{Reply}
use Rattle.resource_locks.specs.Plans.{PlanParts}
use Rattle.scheduling.specs.declared.step.Step.{Step}
use Rattle.scheduling.specs.Runs.{opening}
use Rattle.sched_core.specs.Runs.{run, passed_over}

-- the steps are possible in their turn, so many workers publish this history by them, and all of it is given
pub record IsSchedule (p : PlanParts) (answers : List (ℕ × Reply)) (workers : ℕ) (history : List Event) (steps : List Step) : Type 0 where
  pub possible : passed_over p answers (opening p workers) steps ≡ 0
  pub published : (run p answers (opening p workers) steps).published ≡ history
  pub given : (run p answers (opening p workers) steps).given ≡ history

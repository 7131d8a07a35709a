-- Steps that lead to a history, as `run_steps` takes them.
use Rattle.std.specs.Prelude.{◌≡◌, ℕ, ◌+◌, ◌*◌, ◌≤◌, true, List, length, Some, slice_get}
use Rattle.descriptor.specs.Nodes.{body_of}
use Rattle.plan_events.specs.declared.event.Event.{Event}
use Rattle.plan_events.specs.declared.outcome.Reply.{Reply}
use Rattle.resource_locks.specs.Plans.{PlanParts}
use Rattle.event_history.specs.Plans.{pulls_job}
use Rattle.scheduling.specs.declared.step.Step.{Step}
use Rattle.scheduling.specs.Runs.{opening}
use Rattle.termination.specs.Bounds.{most_steps, steps_of_a_try, most_steps_apart}
use Rattle.termination.specs.Conflicts.{IsFreeOfConflict}
use Rattle.sched_core.specs.Runs.{run, passed_over}
use Rattle.sched_core.specs.Taken.{times_turned_back}

-- These steps of so many workers, with these answers of the jobs, publish and give just these events, and none of them is passed over. There are no
-- more of them than the plan and the number of workers say, if the plan is free of conflict; of any, a try's steps more for each time that a
-- worker is turned back at a key.
pub record HasSchedule (p : PlanParts) (answers : List (ℕ × Reply)) (workers : ℕ) (events : List Event) : Type 0 where
  pub steps : List Step
  pub all_taken : passed_over p answers (opening p workers) steps ≡ 0
  pub short : IsFreeOfConflict p → length steps ≤ most_steps_apart p workers
  pub bounded : length steps ≤ most_steps p workers + times_turned_back p answers (opening p workers) steps * steps_of_a_try p
  pub published : (run p answers (opening p workers) steps).published ≡ events
  pub given : (run p answers (opening p workers) steps).given ≡ events

-- The reply of each job that has answered is what it told, as far as the core asks for it: its outcome; of a factory's body all of it.
pub record AgreesAsAsked (p : PlanParts) (told : ℕ → List Reply) (reply : ℕ → Reply) : Type 0 where
  pub outcomes : (job i : ℕ) (r : Reply) → slice_get (told job) i ≡ Some r → r.outcome ≡ (reply job).outcome
  pub pulled : (n job i : ℕ) (r : Reply) → pulls_job p n ≡ true → body_of p.tree n ≡ Some job → slice_get (told job) i ≡ Some r → r ≡ reply job

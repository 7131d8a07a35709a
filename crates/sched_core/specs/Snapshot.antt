-- What contracts see of the core.
use Rattle.std.specs.Prelude.{◌≡◌, ℕ, ◌==◌, nat_lt, if◌then◌else◌, List, Option, Some, None, Result, IsOk, IsErr}
use Rattle.plan_events.specs.declared.outcome.Reply.{Reply}
use Rattle.resource_locks.specs.Plans.{PlanParts}
use Rattle.sched_core.specs.declared.fault.CoreFault.{CoreFault}
use Rattle.sched_core.specs.declared.fault.CoreFault.TheVariants.{NoWorkers, TooManyWorkers}
use Rattle.scheduling.specs.declared.step.Step.{Step}
use Rattle.scheduling.specs.State.{State}
use Rattle.sched_core.specs.Steps.{after_step}

-- the plan and the answers of a run, and the state that it is in
pub record Snapshot : Type 0 where
  pub plan : PlanParts
  pub answers : List (ℕ × Reply)
  pub state : State

-- the reason to refuse so many workers
abbrev pub workers_refusal : ℕ → Option CoreFault
workers_refusal workers = if workers == 0 then Some NoWorkers else (if nat_lt 64 workers then Some TooManyWorkers else None)

-- the state after a step, if the step is enabled
abbrev pub stepped : Snapshot → Step → Option State
stepped c step = after_step c.plan c.answers c.state step

-- The answer to a step that leads to this state, or that is not enabled and changes nothing
abbrev pub IsStep : {T E : Type 0} → Snapshot → Option State → Result T E → Snapshot → Type 0
IsStep old None result new = IsErr result × (new ≡ old)
IsStep old (Some t) result new = IsOk result × (new ≡ record old { state = t })

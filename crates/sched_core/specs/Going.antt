-- What the fixed schedule keeps, for proofs.
use Rattle.std.specs.Prelude.{ℕ, List}
use Rattle.plan_events.specs.declared.outcome.Reply.{Reply}
use Rattle.resource_locks.specs.Plans.{PlanParts}
use Rattle.scheduling.specs.Inside.Going.{IsGoing}
use Rattle.scheduling.specs.Inside.Stages.{Stage}
use Rattle.scheduling.specs.State.{State}

abbrev pub IsOnSchedule : PlanParts → (ℕ → List Reply) → State → Type 0
IsOnSchedule p replies s = (g : ℕ → Stage) × IsGoing p replies s g

-- What the published history of a run keeps.
use Rattle.std.specs.Prelude.{ℕ, List}
use Rattle.plan_events.specs.declared.event.Event.{Event}
use Rattle.plan_events.specs.declared.outcome.Reply.{Reply}
use Rattle.resource_locks.specs.Plans.{PlanParts}
use Rattle.event_history.specs.History.{IsLegal}
use Rattle.event_history.specs.Order.{IsInOrder}
use Rattle.event_history.specs.Exclusion.{IsExclusive}
use Rattle.event_history.specs.Limits.{IsWithinLimits}

-- it is legal, in same-thread order, held locks exclude each other, and no more nodes hold a key than its limit says
pub record IsPublished (p : PlanParts) (replies : ℕ → List Reply) (workers : ℕ) (h : List Event) : Type 0 where
  pub legal : IsLegal p replies workers h
  pub order : IsInOrder p h
  pub exclusive : IsExclusive p h
  pub within : IsWithinLimits p h

-- What contracts see of a run that was told.
use Rattle.std.specs.Prelude.{List}
use Rattle.plan_events.specs.declared.event.Event.{Event}
use Rattle.plan_events.specs.Texts.{TextParts}
use Rattle.resource_locks.specs.Plans.{PlanParts}

-- the plan, the events in their order, and the texts that were told with them
pub record ToldParts : Type 0 where
  pub plan : PlanParts
  pub events : List Event
  pub texts : TextParts

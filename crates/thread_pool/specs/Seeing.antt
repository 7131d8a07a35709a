-- What the observer of a run has seen of what the dispatcher has read.
use Rattle.std.specs.Prelude.{◌≡◌, ◌++◌, List}
use Rattle.plan_events.specs.declared.event.Event.{Event}
use Rattle.plan_events.specs.Texts.{TextParts}
use Rattle.resource_locks.specs.Plans.{PlanParts}
use Rattle.listeners.specs.Listeners.{Telling, tellings_of}
use Rattle.listeners.specs.Observing.{HasSeenMore}

module _ {L : Type 0} (saw : PlanParts → L → L → List Telling → Type 0) where
  -- it has seen of this plan what was read since, each event with its text
  pub record HasSeenSince (p : PlanParts) (texts : TextParts) (was read : List Event) (a b : L) : Type 0 where
    pub more : List Event
    pub is : read ≡ was ++ more
    pub seen : HasSeenMore saw p (tellings_of texts more) a b

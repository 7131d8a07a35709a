-- The part of a history that is each worker's own, and a history that ends with the plan's finish.
use Rattle.std.specs.Prelude.{◌≡◌, ℕ, ◌+◌, ◌==◌, List, length}
use Rattle.std.specs.List.{filter}
use Rattle.plan_events.specs.declared.event.Event.{Event}
use Rattle.plan_events.specs.declared.event.EventKind.TheVariants.{Finished}
use Rattle.event_history.specs.Places.{StandsAt}

-- what a worker draws of a history
abbrev pub part_of : ℕ → List Event → List Event
part_of worker h = filter (λ e. e.worker == worker) h

-- the plan's finish stands last
pub record EndsInPlan (h : List Event) : Type 0 where
  pub place : ℕ
  pub stands : StandsAt h place Finished 0
  pub last : place + 1 ≡ length h

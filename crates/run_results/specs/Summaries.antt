-- What contracts see of a listener that counts.
use Rattle.std.specs.Prelude.{ℕ, List}
use Rattle.plan_events.specs.declared.event.Event.{Event}
use Rattle.run_results.specs.declared.node_places.NodePlace.{NodePlace}

-- what it was told, in order, how many more events it can be told without taking memory, and what it kept of the plan last
-- prepared: a place for each node, and none before
pub record SummaryParts : Type 0 where
  pub got : List Event
  pub room : ℕ
  pub outline : List NodePlace

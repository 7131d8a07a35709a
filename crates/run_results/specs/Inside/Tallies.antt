-- What is kept of a plan and of what was told of its nodes, which only proofs need.
use Rattle.std.specs.Prelude.{◌≡◌, ℕ, ◌<◌, ◌≤◌, List, length, Some}
use Rattle.plan_events.specs.declared.status.Status.TheVariants.{Failed}
use Rattle.run_results.specs.declared.node_places.NodePlace.{NodePlace}
use Rattle.run_results.specs.declared.told.NodeEvents.{NodeEvents}
use Rattle.run_results.specs.declared.tally.Tally.TheInside.{Inside}
use Rattle.run_results.specs.Counts.{FollowParents}
use Rattle.run_results.specs.Told.{told_at}

-- a place for each node, and what was told of it
pub record TallyParts : Type 0 where
  pub outline : List NodePlace
  pub told : List NodeEvents

abbrev pub tally_of : Inside → TallyParts
tally_of t = record { outline = t.outline.items; told = t.told.items }

-- the places are those of a plan, or none, and each node has what was told of it
pub record IsTally (t : Inside) : Type 0 where
  pub few : length t.outline.items ≤ 16384
  pub parents : FollowParents t.outline.items
  pub each : length t.told.items ≡ length t.outline.items

-- of a node other than node 0 it was told that it failed
abbrev pub TellsFailure : List NodeEvents → Type 0
TellsFailure told = (n : ℕ) × (0 < n) × (n < length told) × ((told_at told n).status ≡ Some Failed)

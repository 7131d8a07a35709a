-- What stands where in a list of events.
use Rattle.std.specs.Prelude.{◌≡◌, ℕ, ◌<◌, Bool, true, false, ◌&&◌, ◌||◌, ◌==◌, List, [], ◌∷◌, Option, Some, slice_get, ◌⊎◌}
use Rattle.plan_events.specs.declared.event.Event.{Event}
use Rattle.plan_events.specs.declared.event.EventKind.{EventKind}
use Rattle.plan_events.specs.declared.event.EventKind.TheVariants.{Started, Finished, Skipped, Registered}
use Rattle.plan_events.specs.declared.status.Status.{Status}
use Rattle.plan_events.specs.Statuses.{is_failed}

-- an event of this kind and node stands at place i
pub record StandsAt (h : List Event) (i : ℕ) (k : EventKind) (n : ℕ) : Type 0 where
  pub event : Event
  pub here : slice_get h i ≡ Some event
  pub kind : event.kind ≡ k
  pub node : event.node ≡ n

-- an event of this kind and node stands before place i
pub record StandsBefore (h : List Event) (i : ℕ) (k : EventKind) (n : ℕ) : Type 0 where
  pub place : ℕ
  pub before : place < i
  pub stands : StandsAt h place k n

-- whether two kinds are the same
abbrev pub same_kind : EventKind → EventKind → Bool
same_kind Started Started = true
same_kind Finished Finished = true
same_kind Skipped Skipped = true
same_kind Registered Registered = true
same_kind _ _ = false

-- whether this is the status of a failure
abbrev pub is_failed_or : Option Status → Bool
is_failed_or (Some status) = is_failed status
is_failed_or _ = false

-- whether the event finishes a node with a failure
abbrev pub is_failure : Event → Bool
is_failure e = same_kind e.kind Finished && is_failed_or e.status

-- the node is settled at place i: its finish, or that it was skipped, stands before it
abbrev pub IsSettledAt : List Event → ℕ → ℕ → Type 0
IsSettledAt h i n = StandsBefore h i Finished n ⊎ StandsBefore h i Skipped n

-- no event of the node stands in the list
abbrev pub IsSilent : List Event → ℕ → Type 0
IsSilent h n = (i : ℕ) (e : Event) → slice_get h i ≡ Some e → e.node ≡ n → ⊥

-- whether the event is of this kind and node
abbrev pub is_of : EventKind → ℕ → Event → Bool
is_of k n e = same_kind e.kind k && (e.node == n)

-- whether some event of the list passes
abbrev pub has_event : (Event → Bool) → List Event → Bool
has_event q [] = false
has_event q (e ∷ h) = q e || has_event q h

-- whether some event of the list is of this kind and node
abbrev pub has : EventKind → ℕ → List Event → Bool
has k n h = has_event (is_of k n) h

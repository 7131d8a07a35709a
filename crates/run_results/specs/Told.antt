-- What events tell of a node: whether it was registered, started or skipped, and how it ended.
use Rattle.std.specs.Prelude.{ℕ, ◌==◌, ◌&&◌, ◌||◌, not, Bool, true, false, cond, List, [], ◌∷◌, map, Option, None, Some, slice_index_or}
use Rattle.std.specs.List.{list_any, range_with_len}
use Rattle.std.specs.Option.{option_or}
use Rattle.plan_events.specs.declared.event.Event.{Event}
use Rattle.plan_events.specs.declared.event.EventKind.{EventKind}
use Rattle.plan_events.specs.declared.event.EventKind.TheVariants.{Started, Finished, Skipped, Registered}
use Rattle.plan_events.specs.declared.status.Status.{Status}
use Rattle.plan_events.specs.Statuses.{is_failed}
use Rattle.run_results.specs.declared.told.NodeEvents.{NodeEvents}

-- whether the event says that its node started
abbrev pub is_start : EventKind → Bool
is_start Started = true
is_start Finished = false
is_start Skipped = false
is_start Registered = false

-- whether the event says that its node was skipped
abbrev pub is_skip : EventKind → Bool
is_skip Started = false
is_skip Finished = false
is_skip Skipped = true
is_skip Registered = false

-- whether the event says that its node was registered
abbrev pub is_registration : EventKind → Bool
is_registration Started = false
is_registration Finished = false
is_registration Skipped = false
is_registration Registered = true

-- the status that stands with an event of this kind, which counts at a finish alone
abbrev pub status_by : EventKind → Option Status → Option Status
status_by Started status = None
status_by Finished status = status
status_by Skipped status = None
status_by Registered status = None

-- whether an event says that node n started
abbrev pub is_started : List Event → ℕ → Bool
is_started events n = list_any (λ e. (e.node == n) && is_start e.kind) events

-- whether an event says that node n was skipped
abbrev pub is_skipped : List Event → ℕ → Bool
is_skipped events n = list_any (λ e. (e.node == n) && is_skip e.kind) events

-- whether an event says that node n was registered
abbrev pub is_registered : List Event → ℕ → Bool
is_registered events n = list_any (λ e. (e.node == n) && is_registration e.kind) events

-- what one event says of how node n ended
abbrev pub status_told : ℕ → Event → Option Status
status_told n e = cond (e.node == n) (status_by e.kind e.status) None

-- how node n ended: the status of its finish, and of the first one if there are several
abbrev pub status_of : List Event → ℕ → Option Status
status_of [] n = None
status_of (e ∷ events) n = option_or (status_told n e) (status_of events n)

-- all of it
abbrev pub told_of : List Event → ℕ → NodeEvents
told_of events n = record { started = is_started events n; skipped = is_skipped events n; registered = is_registered events n; status = status_of events n }

-- what these events tell of each of so many nodes, from node 0
abbrev pub all_told : ℕ → List Event → List NodeEvents
all_told nodes events = map (told_of events) (range_with_len 0 nodes)

-- what no event tells
abbrev pub nothing : NodeEvents
nothing = record { started = false; skipped = false; registered = false; status = None }

-- what is told of node n, and nothing past the end
abbrev pub told_at : List NodeEvents → ℕ → NodeEvents
told_at told n = slice_index_or told n nothing

-- whether a node has a line in the tree: it started or was skipped
abbrev pub has_line : NodeEvents → Bool
has_line told = told.started || told.skipped

-- whether a node ended with such a status
abbrev pub ended : (Status → Bool) → Option Status → Bool
ended such None = false
ended such (Some status) = such status

-- whether an event tells that a node failed, which is not the plan
abbrev pub tells_failure : Event → Bool
tells_failure e = not (e.node == 0) && ended is_failed (status_by e.kind e.status)

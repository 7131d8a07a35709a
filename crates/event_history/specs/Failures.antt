-- How many nodes have failed, and of how many failures a worker knows.
use Rattle.std.specs.Prelude.{ℕ, ◌+◌, Bool, ◌&&◌, ◌||◌, ◌==◌, cond, List, [], ◌∷◌}
use Rattle.descriptor.specs.Nodes.{bit}
use Rattle.plan_events.specs.declared.event.Event.{Event}
use Rattle.event_history.specs.Places.{is_failure, has_event}

-- how many nodes finish with a failure
abbrev pub failures : List Event → ℕ
failures [] = 0
failures (e ∷ h) = bit (is_failure e) + failures h

-- whether an event of this worker stands in the list
abbrev pub has_worker : ℕ → List Event → Bool
has_worker w h = has_event (λ e. e.worker == w) h

-- how many failures worker w knows of that looks after these events: its own, and those of a worker of which a later event stands
abbrev pub known : ℕ → List Event → ℕ
known w [] = 0
known w (e ∷ h) = bit (is_failure e && ((e.worker == w) || has_worker e.worker h)) + known w h

-- the events up to the last one of worker w
abbrev pub up_to : ℕ → List Event → List Event
up_to w [] = []
up_to w (e ∷ h) = cond (has_worker w (e ∷ h)) (e ∷ up_to w h) []

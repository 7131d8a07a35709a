-- What the failures of a history are counted by. Only proofs need this file.
use Rattle.std.specs.Prelude.{ℕ, ◌+◌, Bool, false, ◌&&◌, ◌==◌, cond, List, [], ◌∷◌}
use Rattle.descriptor.specs.Nodes.{bit}
use Rattle.plan_events.specs.declared.event.Event.{Event}
use Rattle.event_history.specs.Places.{is_failure}
use Rattle.event_history.specs.Failures.{has_worker}

-- how many failures stand before a later event of their worker
abbrev pub followed : List Event → ℕ
followed [] = 0
followed (e ∷ h) = bit (is_failure e && has_worker e.worker h) + followed h

-- whether the last event of worker w is a failure
abbrev pub fails_last : ℕ → List Event → Bool
fails_last w [] = false
fails_last w (e ∷ h) = cond (has_worker w h) (fails_last w h) (is_failure e && (e.worker == w))

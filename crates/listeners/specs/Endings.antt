-- Which event ends a plan.
use Rattle.std.specs.Prelude.{◌==◌, ◌&&◌, Bool, true, false}
use Rattle.plan_events.specs.declared.event.Event.{Event}
use Rattle.plan_events.specs.declared.event.EventKind.{EventKind}
use Rattle.plan_events.specs.declared.event.EventKind.TheVariants.{Started, Finished, Skipped, Registered}

abbrev pub is_finish : EventKind → Bool
is_finish Started = false
is_finish Finished = true
is_finish Skipped = false
is_finish Registered = false

-- the event is the plan's finish
abbrev pub ends_plan : Event → Bool
ends_plan e = is_finish e.kind && (e.node == 0)

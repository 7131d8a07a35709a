-- The lists so far are the workers' parts of the events so far.
use Rattle.std.proofs.Common.{◌≡◌, take}
use Rattle.sched_core.specs.Inside.Fields.{parts_upto}
use Rattle.sched_core.specs.Traces.{lists_of}
use Rattle.sched_core.proofs.trace.parts.Given as goal

abbrev pub invariant-loop-event : goal.invariant-loop-event
invariant-loop-event l = lists_of l.lists ≡ parts_upto l.workers (take l.event-index l.events)

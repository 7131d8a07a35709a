-- The lists so far are those of a history without events.
use Rattle.std.proofs.Common.{◌≡◌, []}
use Rattle.sched_core.specs.Inside.Fields.{parts_upto}
use Rattle.sched_core.specs.Traces.{lists_of}
use Rattle.sched_core.proofs.trace.empty_lists.Given as goal

abbrev pub invariant-loop-worker : goal.invariant-loop-worker
invariant-loop-worker l = lists_of l.lists ≡ parts_upto l._worker []

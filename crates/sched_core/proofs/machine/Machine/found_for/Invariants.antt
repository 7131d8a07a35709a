-- None of the nodes so far may be taken.
use Rattle.sched_core.specs.Inside.Fields.{state_of}
use Rattle.sched_core.specs.Inside.Rounds.{NoneFoundBelow}
use Rattle.sched_core.proofs.machine.Machine.found_for.Given as goal

abbrev pub invariant-loop-index : goal.invariant-loop-index
invariant-loop-index l = NoneFoundBelow l.plan (state_of l.self) l.fn.place l.index

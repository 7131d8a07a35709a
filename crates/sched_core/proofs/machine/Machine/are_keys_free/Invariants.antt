-- The keys so far may be taken.
use Rattle.sched_core.specs.Inside.Fields.{state_of}
use Rattle.sched_core.specs.Inside.Rounds.{AreFreeBelow}
use Rattle.sched_core.proofs.machine.Machine.are_keys_free.Given as goal

abbrev pub invariant-loop-index : goal.invariant-loop-index
invariant-loop-index l = AreFreeBelow l.plan (state_of l.self) l.fn.node l.index

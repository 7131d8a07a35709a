-- No node so far is open.
use Rattle.sched_core.specs.Statuses.{NoneOpenIn}
use Rattle.sched_core.proofs.next.first_open.Given as goal

abbrev pub invariant-loop-index : goal.invariant-loop-index
invariant-loop-index l = NoneOpenIn l.statuses l.index

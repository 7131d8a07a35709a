use Rattle.test_jobs.specs.Acting.{AreFresh, replies_left}
use Rattle.test_jobs.proofs.casting.filled.Given as goal

abbrev pub invariant-loop-slot : goal.invariant-loop-slot
invariant-loop-slot l = AreFresh replies_left l.jobs.items

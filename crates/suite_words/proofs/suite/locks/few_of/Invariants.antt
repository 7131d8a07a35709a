-- The loop has put the locks that it has passed.
use Rattle.std.proofs.Common.{◌≡◌, [], take}
use Rattle.resource_locks.specs.LockSets.{join}
use Rattle.suite_words.proofs.suite.locks.few_of.Given as goal

abbrev pub invariant-loop-lock : goal.invariant-loop-lock
invariant-loop-lock l = l.set ≡ join [] (take l.lock-index l.locks)

-- The set has the locks so far.
use Rattle.std.proofs.Common.{◌≡◌, take}
use Rattle.resource_locks.specs.LockSets.{join}
use Rattle.resource_locks.proofs.lock_set.LockSet.put_all.Given as goal

abbrev pub invariant-loop-lock : goal.invariant-loop-lock
invariant-loop-lock l = l.self ≡ join l.fn.self (take l.lock-index l.locks)

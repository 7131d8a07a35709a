-- The locks so far.
use Rattle.std.proofs.Common.{◌≡◌, take}
use Rattle.resource_locks.specs.Keys.{with_keys}
use Rattle.resource_locks.proofs.lock_names.LockNames.add_all.Given as goal

abbrev pub invariant-loop-lock : goal.invariant-loop-lock
invariant-loop-lock l = l.self ≡ with_keys l.fn.self (take l.lock-index l.locks)

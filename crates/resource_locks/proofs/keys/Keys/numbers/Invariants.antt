-- The numbers so far.
use Rattle.std.proofs.Common.{◌≡◌, take}
use Rattle.resource_locks.specs.Plans.{numbers_of}
use Rattle.resource_locks.proofs.keys.Keys.numbers.Given as goal

abbrev pub invariant-loop-lock : goal.invariant-loop-lock
invariant-loop-lock l = l.numbers.items ≡ numbers_of l.self (take l.lock-index l.locks)

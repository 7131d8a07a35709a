-- Copying locks: the loop has copied the locks that it has passed.
use Rattle.std.proofs.Common.{◌≡◌, take}
use Rattle.descriptor.proofs.lock.Lock.copy_all.Given as goal

abbrev pub invariant-loop-lock : goal.invariant-loop-lock
invariant-loop-lock l = l.copies.items ≡ take l.lock-index l.locks

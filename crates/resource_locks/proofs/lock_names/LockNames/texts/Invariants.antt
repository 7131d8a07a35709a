-- The texts so far.
use Rattle.std.proofs.Common.{◌≡◌, take}
use Rattle.resource_locks.proofs.lock_names.LockNames.texts.Given as goal

abbrev pub invariant-loop-name : goal.invariant-loop-name
invariant-loop-name l = l.texts.items ≡ take l.name-index l.name-items

-- The loop has copied what it has passed.
use Rattle.std.proofs.Common.{◌≡◌, take}
use Rattle.resource_locks.proofs.plan.copied_sets.Given as goal

abbrev pub invariant-loop-set : goal.invariant-loop-set
invariant-loop-set l = l.copies.items ≡ take l.set-index l.sets

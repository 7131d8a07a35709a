-- The loop has copied what it has passed.
use Rattle.std.proofs.Common.{◌≡◌, map, take}
use Rattle.resource_locks.proofs.plan.copied_numbers.Given as goal

abbrev pub invariant-loop-list : goal.invariant-loop-list
invariant-loop-list l = map (λ v. v.items) l.copies.items ≡ map (λ v. v.items) (take l.list-index l.lists)

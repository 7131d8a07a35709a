-- The numbers of the sets so far.
use Rattle.std.proofs.Common.{◌≡◌, map, take}
use Rattle.resource_locks.specs.Plans.{numbers_of}
use Rattle.resource_locks.proofs.keys.Keys.all_numbers.Given as goal

abbrev pub invariant-loop-set : goal.invariant-loop-set
invariant-loop-set l = map (λ v. v.items) l.lists.items ≡ map (numbers_of l.self) (take l.set-index l.sets)

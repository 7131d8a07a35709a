-- What is left of the list says the same, and there is less of it.
use Rattle.std.proofs.Common.{◌≡◌, length}
use Rattle.resource_locks.specs.Limits.{first_limit}
use Rattle.resource_locks.proofs.limits.first_limit.Given as goal

abbrev pub invariant-loop-limit : goal.invariant-loop-limit
invariant-loop-limit l = first_limit l.rest l.key ≡ first_limit l.fn.given l.key

abbrev pub decreases-loop-limit : goal.decreases-loop-limit
decreases-loop-limit l = length l.rest

-- The limits of the keys so far.
use Rattle.std.proofs.Common.{◌≡◌, map, take}
use Rattle.resource_locks.specs.Limits.{limit_given}
use Rattle.resource_locks.proofs.limits.limits_of.Given as goal

abbrev pub invariant-loop-key : goal.invariant-loop-key
invariant-loop-key l = l.limits.items ≡ map (limit_given l.given) (take l.key-index l.keys)

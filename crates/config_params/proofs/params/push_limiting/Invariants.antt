-- The keys of the places so far.
use Rattle.std.proofs.Common.{◌≡◌, ◌++◌, map, take}
use Rattle.config_params.specs.LockKeys.{limiting}
use Rattle.config_params.proofs.params.push_limiting.Given as goal

abbrev pub invariant-loop-place : goal.invariant-loop-place
invariant-loop-place l = map (λ key. key.now) l.keys.items ≡ map (λ key. key.now) l.fn.keys.items ++ limiting (take l.place l.table)

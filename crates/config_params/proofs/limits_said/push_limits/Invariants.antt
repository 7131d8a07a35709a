-- The limits of the keys so far, with which nothing is wrong.
use Rattle.std.proofs.Common.{◌≡◌, ◌++◌, map, take, None}
use Rattle.config_params.specs.LockLimits.{limits_by, limits_fault}
use Rattle.config_params.specs.Parameters.{answer_over}
use Rattle.config_params.proofs.limits_said.push_limits.Given as goal

abbrev pub invariant-loop-key : goal.invariant-loop-key
invariant-loop-key l =
    (l.limits.items ≡ l.fn.limits.items ++ limits_by (answer_over l.over l.under) (map (λ key. key.now) (take l.key-index l.keys)))
    × (limits_fault (answer_over l.over l.under) l.names (map (λ key. key.now) (take l.key-index l.keys)) ≡ None)

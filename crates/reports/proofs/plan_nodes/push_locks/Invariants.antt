-- The locks so far, each of whose limits is a byte.
use Rattle.std.proofs.Common.{◌≡◌, ◌++◌, codes, take, string_bytes}
use Rattle.std.specs.List.{join_by}
use Rattle.resource_locks.specs.Plans.{held_of}
use Rattle.reports.specs.JsonPieces.{value_text}
use Rattle.reports.specs.PlanNodes.{lock_json, HaveByteLimits}
use Rattle.reports.proofs.plan_nodes.push_locks.Given as goal

abbrev pub invariant-loop-place : goal.invariant-loop-place
invariant-loop-place l =
    let held = take l.place (held_of l.plan l.node) in
    (string_bytes l.json ≡ string_bytes l.fn.json ++ join_by (λ lock. value_text (lock_json l.plan lock)) (codes ",") held) × HaveByteLimits l.plan held

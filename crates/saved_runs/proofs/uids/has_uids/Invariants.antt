-- The nodes so far have unique ids.
use Rattle.std.proofs.Common.{ℕ, ◌<◌, ◌≤◌}
use Rattle.saved_runs.specs.Histories.{HasUid}
use Rattle.saved_runs.proofs.uids.has_uids.Given as goal

abbrev pub invariant-loop-number : goal.invariant-loop-number
invariant-loop-number l = ((n : ℕ) → 0 < n → n < l.number → HasUid l.plan.tree n) × (1 ≤ l.number)

-- Of none so far it was told that it failed.
use Rattle.std.proofs.Common.{◌≡◌, ℕ, ◌<◌, false}
use Rattle.plan_events.specs.Statuses.{is_failed}
use Rattle.run_results.specs.Told.{told_at, ended}
use Rattle.run_results.proofs.told.any_failed.Given as goal

abbrev pub invariant-loop-place : goal.invariant-loop-place
invariant-loop-place l = (n : ℕ) → 0 < n → n < l.place → ended is_failed (told_at l.told n).status ≡ false

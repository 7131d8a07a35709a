-- The ids so far.
use Rattle.std.proofs.Common.{◌≡◌, take}
use Rattle.saved_runs.specs.RunAgain.{failed_ids}
use Rattle.saved_runs.proofs.again.failed_ids.Given as goal

abbrev pub invariant-loop-one : goal.invariant-loop-one
invariant-loop-one l = l.ids.items ≡ failed_ids (take l.one-index l.told)

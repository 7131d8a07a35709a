-- What was told so far is not the plan's finish.
use Rattle.std.proofs.Common.{◌≡◌, false, take}
use Rattle.saved_runs.specs.RunAgain.{is_whole}
use Rattle.saved_runs.proofs.again.is_whole.Given as goal

abbrev pub invariant-loop-one : goal.invariant-loop-one
invariant-loop-one l = is_whole (take l.one-index l.told) ≡ false

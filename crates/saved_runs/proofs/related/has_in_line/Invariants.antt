-- None of the ids so far is in line with it.
use Rattle.std.proofs.Common.{◌≡◌, false, take}
use Rattle.std.specs.List.{list_any}
use Rattle.saved_runs.specs.RunAgain.{are_in_line}
use Rattle.saved_runs.proofs.related.has_in_line.Given as goal

abbrev pub invariant-loop-other : goal.invariant-loop-other
invariant-loop-other l = list_any (are_in_line l.id) (take l.other-index l.ids) ≡ false

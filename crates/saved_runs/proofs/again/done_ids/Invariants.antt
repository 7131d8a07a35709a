-- The ids so far, by all that failed.
use Rattle.std.proofs.Common.{◌≡◌, take}
use Rattle.std.specs.Prelude.{option_to_list}
use Rattle.std.specs.List.{flat_map}
use Rattle.saved_runs.specs.RunAgain.{failed_ids, done_id}
use Rattle.saved_runs.proofs.again.done_ids.Given as goal

abbrev pub invariant-loop-one : goal.invariant-loop-one
invariant-loop-one l = l.ids.items ≡ flat_map (λ t. option_to_list (done_id (failed_ids l.told) t)) (take l.one-index l.told)

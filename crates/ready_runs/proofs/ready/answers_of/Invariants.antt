-- The replies of the scripts so far.
use Rattle.std.proofs.Common.{◌≡◌}
use Rattle.ready_runs.specs.Ready.{answers_of}
use Rattle.ready_runs.proofs.ready.answers_of.Given as goal

abbrev pub invariant-loop-script : goal.invariant-loop-script
invariant-loop-script l = l.replies.items ≡ answers_of l.yielded

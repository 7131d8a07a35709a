-- The first of the arguments that are left which says no pair is that of all.
use Rattle.std.proofs.Common.{◌≡◌, ◌+◌, drop}
use Rattle.launch_options.specs.Given.{behind}
use Rattle.launch_options.specs.Parameters.{pairs_refusal}
use Rattle.launch_options.proofs.parameters.judge_pairs.Given as goal

abbrev pub invariant-loop-index : goal.invariant-loop-index
invariant-loop-index l = pairs_refusal (l.before + l.index + 1) (behind (drop l.index l.words)) ≡ pairs_refusal (l.before + 1) (behind l.words)

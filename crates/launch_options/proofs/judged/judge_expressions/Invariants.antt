-- The first fault of the texts that are left is that of all.
use Rattle.std.proofs.Common.{◌≡◌, drop}
use Rattle.launch_options.specs.Given.{behind}
use Rattle.launch_options.specs.Asked.{tags_refusal}
use Rattle.launch_options.proofs.judged.judge_expressions.Given as goal

abbrev pub invariant-loop-text : goal.invariant-loop-text
invariant-loop-text l = tags_refusal (behind (drop l.text-index l.texts)) ≡ tags_refusal (behind l.texts)

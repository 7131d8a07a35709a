-- The first of the texts that are left which spells none is that of all.
use Rattle.std.proofs.Common.{◌≡◌, ◌+◌, drop}
use Rattle.launch_options.specs.Given.{texts_of}
use Rattle.launch_options.specs.Asked.{selectors_refusal}
use Rattle.launch_options.proofs.judged.judge_selectors.Given as goal

abbrev pub invariant-loop-index : goal.invariant-loop-index
invariant-loop-index l = selectors_refusal (l.before + l.index + 1) (texts_of (drop l.index l.texts)) ≡ selectors_refusal (l.before + 1) (texts_of l.texts)

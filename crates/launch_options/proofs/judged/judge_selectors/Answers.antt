-- A text that spells a selector leaves the refusal to the others.
use Rattle.std.proofs.Common.{arith}
use Rattle.std.proofs.lemmas.Grind.{common_steps}
use Rattle.launch_options.proofs.Requesting.{refused_next, spelled_by}
use Rattle.launch_options.proofs.judged.judge_selectors.Goals as goal

pub loop-index-preserved : goal.loop-index-preserved
loop-index-preserved c =
    refused_next c.args.texts.now c.loop-index.index _ c.loop-index-test.true _ c.args.before c.loop-index.invariant
    (spelled_by c.spells_selector.result _ c.spells_selector.ensures (grind (arith, common_steps)))

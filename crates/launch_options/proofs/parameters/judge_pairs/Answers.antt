-- An argument that says a pair leaves the refusal to the others.
use Rattle.std.proofs.Common.{refl}
use Rattle.launch_options.proofs.Pairing.{pairs_next}
use Rattle.launch_options.proofs.parameters.judge_pairs.Goals as goal

pub loop-index-preserved : goal.loop-index-preserved
loop-index-preserved c = pairs_next c.args.words.now c.loop-index.index _ c.loop-index-test.true _ c.args.before _ _ c.loop-index.invariant refl c.in_default.ensures

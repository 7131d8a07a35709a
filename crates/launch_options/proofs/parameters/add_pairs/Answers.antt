-- One argument's pair more.
use Rattle.launch_options.proofs.Pairing.{pairs_put}
use Rattle.launch_options.proofs.parameters.add_pairs.Goals as goal

pub loop-word-preserved : goal.loop-word-preserved
loop-word-preserved c = pairs_put c.args.words.now c.loop-word.word-index _ c.loop-word-test.true _ _ _ c.args.source c.loop-word.invariant c.in_ok-add_pair.ensures

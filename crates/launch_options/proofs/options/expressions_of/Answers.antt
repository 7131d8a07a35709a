-- One expression more.
use Rattle.launch_options.proofs.Requesting.{expressions_next}
use Rattle.launch_options.proofs.options.expressions_of.Goals as goal

pub loop-text-preserved : goal.loop-text-preserved
loop-text-preserved c =
    rw c.in_ok-push.ensures.items (expressions_next c.args.texts.now c.loop-text.text-index _ c.loop-text-test.true c.loop-text.expressions.items _ c.loop-text.invariant c.in_ok-expression.ensures)

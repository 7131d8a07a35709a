-- One selector more.
use Rattle.std.proofs.Common.{◌∙◌}
use Rattle.launch_options.proofs.Requesting.{spelled_next}
use Rattle.launch_options.proofs.options.selectors_of.Goals as goal

pub loop-kind-preserved : goal.loop-kind-preserved
loop-kind-preserved c =
    c.in_ok-push.ensures.items ∙ spelled_next c.args.texts.now c.loop-kind.kind-index _ c.loop-kind-test.true c.loop-kind.selectors.items _ c.loop-kind.invariant c.in_ok-selector.ensures

-- What was told before is told of the new plan's nodes.
use Rattle.std.proofs.Common.{◌∙◌, length, ap, sym}
use Rattle.run_results.specs.Told.{all_told}
use Rattle.run_results.proofs.summary.SummaryListener.prepare.Goals as goal

pub invariant_of-self-2 : goal.invariant_of-self-2
invariant_of-self-2 c = c.in_ok-tally.ensures.told ∙ ap (all_told (length c.in_ok-tally.tally.outline)) (c.events.ensures ∙ sym c.in_ok-reserve.ensures.got)

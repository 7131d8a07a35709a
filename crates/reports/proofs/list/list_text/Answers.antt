-- One line more.
use Rattle.std.proofs.Common.{[], arith}
use Rattle.std.proofs.lemmas.Grind.{common_steps}
use Rattle.reports.specs.Lists.{list_line}
use Rattle.reports.proofs.Growing.{numbers_more}
use Rattle.reports.proofs.list.list_text.Goals as goal

pub loop-number-preserved : goal.loop-number-preserved
loop-number-preserved c = numbers_more (list_line c.args.plan.now) c.loop-number.number [] c.loop-number.invariant (grind (arith, common_steps))

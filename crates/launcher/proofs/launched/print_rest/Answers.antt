-- There was no memory for what is left to be printed.
use Rattle.launcher.proofs.Showing.{broken_print}
use Rattle.launcher.proofs.launched.print_rest.Goals as goal

pub returns-in-Err-clause-answer : goal.returns-in-Err-clause-answer
returns-in-Err-clause-answer g c was so = broken_print so c.outlet.ensures c.sent.ensures c.broken_off.result c.broken_off.ensures.failed c.broken_off.ensures.some c.broken_off.ensures.none

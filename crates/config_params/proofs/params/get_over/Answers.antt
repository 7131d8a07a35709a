-- The value is that of the parameters above, or else that of those below.
use Rattle.config_params.proofs.Laws.{over_none, over_some}
use Rattle.config_params.proofs.params.get_over.Goals as goal

pub returns-in-Some : goal.returns-in-Some
returns-in-Some c = over_some c.args.over.now c.args.under.now c.args.key.now c.in-Some.value.now c.in-Some.ensures

pub returns-in-None : goal.returns-in-None
returns-in-None c = over_none c.args.over.now c.args.under.now c.args.key.now _ c.in-None.ensures c.get-in-None.ensures

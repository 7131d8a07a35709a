use Rattle.workers.proofs.Going.{still_of}
use Rattle.workers.proofs.Outgoing.{then_goes}
use Rattle.workers.proofs.working.take_and_see_through.Goals as goal

pub see_through-requires-clause-table : goal.see_through-requires-clause-table
see_through-requires-clause-table g c = still_of _ _ _ c.requires.table c.take_node.ensures.goes_on.same

pub returns-then-take_node-clause-goes_on : goal.returns-then-take_node-clause-goes_on
returns-then-take_node-clause-goes_on g c = then_goes _ _ _ c.take_node.ensures.goes_on c.see_through.ensures.goes_on

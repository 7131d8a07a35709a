-- What is passed is counted from the place behind the node.
use Rattle.tree_orders.proofs.Drawing.{place_behind_is}
use Rattle.tree_orders.proofs.place.place_behind.Goals as goal

pub returns-clause-same : goal.returns-clause-same
returns-clause-same c = place_behind_is c.args.tree.now c.args.above c.args.left c.place_in-start.result c.passed.result c.args.order.now c.rest_from-behind.result.now c.place_in-start.ensures c.passed.ensures.same c.rest_from-behind.ensures

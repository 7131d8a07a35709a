-- The nodes are as they stood.
use Rattle.tree_orders.proofs.SeededTree.{seeded_reordered}
use Rattle.tree_orders.proofs.seeded.ordered_by_seed.Goals as goal

pub returns-clause-reordered : goal.returns-clause-reordered
returns-clause-reordered c = seeded_reordered c.args.tree c.len.ensures.tree c.args.seed

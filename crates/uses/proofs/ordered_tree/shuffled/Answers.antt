-- Each node ends as it did.
use Rattle.uses.proofs.OrderResults.{ends_alike}
use Rattle.uses.proofs.ordered_tree.shuffled.Goals as goal

pub returns : goal.returns
returns c = ends_alike c.args.tree c.len.ensures.tree c.args.seed c.ordered_by_seed.result c.ordered_by_seed.ensures.ok

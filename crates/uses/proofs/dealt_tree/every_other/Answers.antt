-- There is such a shard, and it has the places that are even.
use Rattle.uses.proofs.Halves.{half}
use Rattle.uses.proofs.dealt_tree.every_other.Goals as goal

pub returns : goal.returns
returns c = half c.args.tree c.in-Some.shard c.shard_of.result c.in-Some.ensures c.shard_of.ensures.ok c.shard_of.ensures.units

-- Who gets which unit, and what staying comes to.
use Rattle.selectors.specs.Shards.{is_unit_of}
use Rattle.selectors.proofs.Shards.{dealt_out}
use Rattle.selectors.proofs.ShardUnits.{shard_kept, shard_units}
use Rattle.selectors.proofs.Staying.{stays_is}
use Rattle.selectors.proofs.shard_tree.shard_of.Goals as goal

pub returns-clause-dealt : goal.returns-clause-dealt
returns-clause-dealt c = dealt_out c.args.tree c.args.shard.now.count c.args.shard.now.dealing c.count.ensures.some

pub returns-clause-stays : goal.returns-clause-stays
returns-clause-stays c = λ n inside. stays_is c.args.tree c.len.ensures.tree (is_unit_of c.args.tree c.args.shard.now) n inside

pub returns-clause-units : goal.returns-clause-units
returns-clause-units c = shard_units c.args.tree c.len.ensures.tree c.args.shard.now

pub returns-clause-kept : goal.returns-clause-kept
returns-clause-kept c = shard_kept c.args.tree c.len.ensures.tree c.args.shard.now

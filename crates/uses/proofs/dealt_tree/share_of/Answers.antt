-- The law of a shard's results, and who is in which shard.
use Rattle.uses.proofs.ShardResults.{each_is_run, shares_alike}
use Rattle.uses.proofs.dealt_tree.share_of.Goals as goal

pub returns-clause-alike : goal.returns-clause-alike
returns-clause-alike c = shares_alike c.args.tree c.len.ensures.tree c.args.shard.now c.shard_of.result c.shard_of.ensures.ok

pub returns-clause-each : goal.returns-clause-each
returns-clause-each c = each_is_run c.args.tree c.len.ensures.tree c.args.shard.now.count c.args.shard.now.dealing c.shard_of.ensures.dealt

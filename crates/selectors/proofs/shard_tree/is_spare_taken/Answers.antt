-- What is known of the factory is so of the spare.
use Rattle.std.proofs.Common.{◌≡◌, false, ◌∙◌, ap, arith}
use Rattle.std.proofs.lemmas.Grind.{common_steps}
use Rattle.selectors.specs.Keeping.{is_taken}
use Rattle.selectors.specs.Shards.{is_unit_of}
use Rattle.selectors.proofs.SparesTaken.{spare_in_shard}
use Rattle.selectors.proofs.Truths.{inside_truths, read_truth}
use Rattle.selectors.proofs.shard_tree.is_spare_taken.Goals as goal

pub bounds-before-index : goal.bounds-before-index
bounds-before-index c = inside_truths c.args.before.now (is_taken c.args.tree.now (is_unit_of c.args.tree.now c.args.shard.now)) c.args.node c.index.result c.requires.before (grind (arith, common_steps))

pub returns-in-Some : goal.returns-in-Some
returns-in-Some c =
    let q = is_taken c.args.tree.now (is_unit_of c.args.tree.now c.args.shard.now) in
    let same : c.index.result ≡ c.in-Some.factory = grind (arith, common_steps) in
    read_truth c.args.before.now q c.args.node c.index.result false c.requires.before (grind (arith, common_steps)) ∙ ap q same
    ∙ spare_in_shard c.args.tree.now c.requires.tree c.args.shard.now c.in-Some.factory c.args.node c.in-Some.ensures.parent c.requires.spare

-- The nodes that stay, and with them each parent.
use Rattle.std.proofs.Common.{◌≡◌, ◌∙◌}
use Rattle.selectors.specs.Covered.{truths}
use Rattle.selectors.specs.Keeping.{is_taken, is_above}
use Rattle.selectors.specs.Shards.{is_unit_of}
use Rattle.descriptor.specs.Nodes.{size}
use Rattle.selectors.proofs.Answer.{closed, above_of, kept_of, len_is}
use Rattle.selectors.proofs.ShardUnits.{same_shard}
use Rattle.selectors.proofs.shard_tree.made.Goals as goal

pub kept-keep-requires-clause-len : goal.kept-keep-requires-clause-len
kept-keep-requires-clause-len c = len_is c.args.tree (is_taken c.args.tree (is_unit_of c.args.tree c.args.shard.now)) c.in_ok-taken.taken.items c.in_ok-taken.ensures

pub into_pruned-requires-clause-one_each : goal.into_pruned-requires-clause-one_each
into_pruned-requires-clause-one_each c =
    let q = is_taken c.args.tree (is_unit_of c.args.tree c.args.shard.now) in
    len_is c.args.tree (is_above c.args.tree q) c.as_slice.result.now (c.as_slice.ensures.value ∙ above_of c.args.tree q c.in_ok-taken.taken.items c.kept-keep.result.items c.in_ok-taken.ensures c.kept-keep.ensures)

pub into_pruned-requires-clause-closed : goal.into_pruned-requires-clause-closed
into_pruned-requires-clause-closed c =
    let q = is_taken c.args.tree (is_unit_of c.args.tree c.args.shard.now) in
    closed c.args.tree c.requires q c.as_slice.result.now (c.as_slice.ensures.value ∙ above_of c.args.tree q c.in_ok-taken.taken.items c.kept-keep.result.items c.in_ok-taken.ensures c.kept-keep.ensures)

pub returns-clause-ok : goal.returns-clause-ok
returns-clause-ok c =
    let q = is_unit_of c.args.tree c.args.shard.now in
    let above : c.as_slice.result.now ≡ truths (is_above c.args.tree (is_taken c.args.tree q)) (size c.args.tree) =
    c.as_slice.ensures.value ∙ above_of c.args.tree (is_taken c.args.tree q) c.in_ok-taken.taken.items c.kept-keep.result.items c.in_ok-taken.ensures c.kept-keep.ensures in
    same_shard c.args.tree c.args.shard.now c.as_slice.result.now (kept_of c.args.tree c.requires q c.as_slice.result.now above) c.into_pruned.result c.into_pruned.ensures.same

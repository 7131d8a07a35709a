-- The nodes that stay, and with them each parent.
use Rattle.std.proofs.Common.{◌≡◌, ◌∙◌, ap}
use Rattle.std.specs.Prelude.{ℕ, ◌==◌}
use Rattle.selectors.specs.Covered.{truths}
use Rattle.selectors.specs.Keeping.{is_taken, is_above, stays}
use Rattle.selectors.specs.Selections.{is_selected}
use Rattle.selectors.specs.Shards.{shard_or_all}
use Rattle.descriptor.specs.Nodes.{Nodes, size}
use Rattle.descriptor.specs.Pruned.{pruned}
use Rattle.tree_orders.specs.Orders.{seeded_or_same}
use Rattle.selectors.proofs.Answer.{closed, above_of, kept_of, len_is}
use Rattle.selectors.proofs.discovery.find.Goals as goal

pub kept-keep-requires-clause-len : goal.kept-keep-requires-clause-len
kept-keep-requires-clause-len c = len_is c.args.tree (is_taken c.args.tree (is_selected c.args.tree c.args.request.now)) c.in_ok-taken.taken.items c.in_ok-taken.ensures

pub into_pruned-requires-clause-one_each : goal.into_pruned-requires-clause-one_each
into_pruned-requires-clause-one_each c =
    let q = is_taken c.args.tree (is_selected c.args.tree c.args.request.now) in
    len_is c.args.tree (is_above c.args.tree q) c.as_slice.result.now (c.as_slice.ensures.value ∙ above_of c.args.tree q c.in_ok-taken.taken.items c.kept-keep.result.items c.in_ok-taken.ensures c.kept-keep.ensures)

pub into_pruned-requires-clause-closed : goal.into_pruned-requires-clause-closed
into_pruned-requires-clause-closed c =
    let q = is_taken c.args.tree (is_selected c.args.tree c.args.request.now) in
    closed c.args.tree c.requires q c.as_slice.result.now (c.as_slice.ensures.value ∙ above_of c.args.tree q c.in_ok-taken.taken.items c.kept-keep.result.items c.in_ok-taken.ensures c.kept-keep.ensures)

pub returns-clause-ok : goal.returns-clause-ok
returns-clause-ok c =
    let q = is_selected c.args.tree c.args.request.now in
    let above : c.as_slice.result.now ≡ truths (is_above c.args.tree (is_taken c.args.tree q)) (size c.args.tree) =
    c.as_slice.ensures.value ∙ above_of c.args.tree (is_taken c.args.tree q) c.in_ok-taken.taken.items c.kept-keep.result.items c.in_ok-taken.ensures c.kept-keep.ensures in
    let selection : c.in_ok-selection.selection ≡ pruned c.args.tree (truths (stays c.args.tree q) (size c.args.tree)) =
    c.in_ok-selection.ensures.same ∙ ap (pruned c.args.tree) (kept_of c.args.tree c.requires q c.as_slice.result.now above) in
    c.in_ok-tree.ensures.ok ∙ ap (λ (t : Nodes). seeded_or_same c.args.request.now.seed (shard_or_all t c.args.request.now.shard)) selection

pub returns-clause-children : goal.returns-clause-children
returns-clause-children c = c.in_ok-tree.ensures.children c.in_ok-selection.ensures.children

pub returns-clause-nothing : goal.returns-clause-nothing
returns-clause-nothing c =
    let q = is_selected c.args.tree c.args.request.now in
    let above : c.as_slice.result.now ≡ truths (is_above c.args.tree (is_taken c.args.tree q)) (size c.args.tree) =
    c.as_slice.ensures.value ∙ above_of c.args.tree (is_taken c.args.tree q) c.in_ok-taken.taken.items c.kept-keep.result.items c.in_ok-taken.ensures c.kept-keep.ensures in
    let selection : c.in_ok-selection.selection ≡ pruned c.args.tree (truths (stays c.args.tree q) (size c.args.tree)) =
    c.in_ok-selection.ensures.same ∙ ap (pruned c.args.tree) (kept_of c.args.tree c.requires q c.as_slice.result.now above) in
    ap (λ (n : ℕ). n == 1) (c.len-is_nothing.ensures.len ∙ ap size selection)

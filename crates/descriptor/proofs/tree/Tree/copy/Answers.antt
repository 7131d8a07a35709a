-- The tree of all nodes is the same tree.
use Rattle.std.proofs.Common.{◌≡◌, ◌∙◌, true, sym, arith}
use Rattle.std.proofs.Math.ListN.{replicate}
use Rattle.std.proofs.lemmas.Grind.{common_steps}
use Rattle.descriptor.specs.Nodes.{size}
use Rattle.descriptor.specs.Inside.Fields.{nodes_of}
use Rattle.descriptor.proofs.AllKept.{all_closed, all_of_them, all_same, as_many, if_same}
use Rattle.descriptor.proofs.tree.Tree.copy.Goals as goal

pub pruned-requires-clause-one_each : goal.pruned-requires-clause-one_each
pruned-requires-clause-one_each c =
    let is : c.as_slice.result.now ≡ replicate c.len.result true = c.as_slice.ensures.value ∙ c.in_ok-all.ensures.items_if_clones_equal (λ y h. h) in
    as_many c.args.self.now c.as_slice.result.now c.len.result is (grind (arith, common_steps))

pub pruned-requires-clause-closed : goal.pruned-requires-clause-closed
pruned-requires-clause-closed c =
    let is : c.as_slice.result.now ≡ replicate c.len.result true = c.as_slice.ensures.value ∙ c.in_ok-all.ensures.items_if_clones_equal (λ y h. h) in
    let many : c.len.result ≡ size (nodes_of c.self.inside) = grind (arith, common_steps) in
    rw (sym c.self.view_is) (all_closed (nodes_of c.self.inside) c.as_slice.result.now c.self.invariant.tree (as_many (nodes_of c.self.inside) c.as_slice.result.now c.len.result is many) (all_of_them c.as_slice.result.now c.len.result is))

pub returns : goal.returns
returns c =
    let is : c.as_slice.result.now ≡ replicate c.len.result true = c.as_slice.ensures.value ∙ c.in_ok-all.ensures.items_if_clones_equal (λ y h. h) in
    let many : c.len.result ≡ size (nodes_of c.self.inside) = grind (arith, common_steps) in
    if_same _ _ _ c.pruned.ensures.same (rw (sym c.self.view_is) (all_same (nodes_of c.self.inside) c.as_slice.result.now c.self.invariant.tree c.self.invariant.plan (as_many (nodes_of c.self.inside) c.as_slice.result.now c.len.result is many) (all_of_them c.as_slice.result.now c.len.result is)))

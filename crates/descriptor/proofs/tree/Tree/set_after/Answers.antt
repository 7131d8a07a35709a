-- The tree keeps its lists where a node is given an after-body.
use Rattle.std.proofs.Common.{◌≡◌, suc, ◌<◌, ◌-◌, get_or, arith, refl, ap, sym, ◌∙◌, None}
use Rattle.std.proofs.lemmas.Grind.{common_steps}
use Rattle.descriptor.specs.Bodies.{with_after}
use Rattle.descriptor.specs.Inside.Fields.{nodes_of}
use Rattle.descriptor.specs.Nodes.{Nodes, size}
use Rattle.descriptor.specs.Refusals.{after_refusal}
use Rattle.descriptor.proofs.AfterBodies.{kept_with_after, with_after_is}
use Rattle.descriptor.proofs.Grown.{kept_as}
use Rattle.descriptor.proofs.tree.Tree.set_after.Goals as goal

pub invariant_of-self : goal.invariant_of-self
invariant_of-self c =
    let inside : c.args.node < size (nodes_of c.self.inside) = grind (arith, common_steps) in
    let place : suc (c.index.result - 1) ≡ c.args.node = grind (arith, common_steps) in
    let at : c.index_mut.result.now ≡ get_or c.self.inside.nodes.items (c.index.result - 1) c.index_mut.result.now = grind (arith, common_steps) in
    let taken : after_refusal (nodes_of c.self.inside) c.args.node c.args.body ≡ None = ap (λ (t : Nodes). after_refusal t c.args.node c.args.body) c.self.view_is ∙ c.requires.accepted in
    kept_as _ _ _ _ _ _ (kept_with_after (nodes_of c.self.inside) c.args.node c.args.body _ _ c.self.invariant taken)
    (with_after_is (nodes_of c.self.inside) _ c.args.node (c.index.result - 1) c.args.body c.index_mut.result.now c.self.invariant.tree inside place at refl refl) refl refl

pub returns : goal.returns
returns c =
    let inside : c.args.node < size (nodes_of c.self.inside) = grind (arith, common_steps) in
    let place : suc (c.index.result - 1) ≡ c.args.node = grind (arith, common_steps) in
    let at : c.index_mut.result.now ≡ get_or c.self.inside.nodes.items (c.index.result - 1) c.index_mut.result.now = grind (arith, common_steps) in
    sym (with_after_is (nodes_of c.self.inside) _ c.args.node (c.index.result - 1) c.args.body c.index_mut.result.now c.self.invariant.tree inside place at refl refl)
    ∙ ap (λ (t : Nodes). with_after t c.args.node c.args.body) c.self.view_is

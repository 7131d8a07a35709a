-- The tree keeps its lists where one more node comes.
use Rattle.std.proofs.Common.{◌≡◌, length, arith, refl, sym, ◌∙◌, ap, subst}
use Rattle.std.proofs.lemmas.Grind.{common_steps}
use Rattle.descriptor.specs.Nodes.{size, Nodes}
use Rattle.descriptor.specs.Inside.Fields.{numbers_in, with_child, IsKept}
use Rattle.descriptor.proofs.Grown.{kept, kept_as}
use Rattle.descriptor.proofs.Accepted.{tree_grown}
use Rattle.descriptor.proofs.tree.Tree.push.Goals as goal

pub invariant_of-self : goal.invariant_of-self
invariant_of-self c =
    let old : IsKept c.args.self.now c.self.inside.depths.items (numbers_in c.self.inside.children.items) =
    subst (λ (t : Nodes). IsKept t c.self.inside.depths.items (numbers_in c.self.inside.children.items)) c.self.view_is c.self.invariant in
    let number : length c.self.inside.parents.items ≡ size c.args.self.now = ap size c.self.view_is in
    kept_as _ _ _ _ _ _ (kept c.args.self.now c.args.parent c.args.node c.requires.may_take.0 old.tree (tree_grown _ _ _ old.tree c.requires.may_take c.requires.accepted) c.self.inside.depths.items (numbers_in c.self.inside.children.items) old _ refl)
    (grind (arith, common_steps))
    (sym c.in-Ok.ensures.depths)
    (sym (c.in-Ok.ensures.children ∙ ap (with_child (numbers_in c.self.inside.children.items) c.args.parent) number))

-- The first child of a node that runs in its thread is the one with none before it.
use Rattle.std.proofs.Common.{◌∙◌, ℕ, ◌<◌, None, get_or, ap, sym, refl, subst, arith}
use Rattle.std.proofs.lemmas.List.{get_or_default}
use Rattle.descriptor.specs.Nodes.{Nodes, IsChild, size, role_of}
use Rattle.descriptor.specs.Roles.{is_spare}
use Rattle.scheduling.proofs.Batch.{offered_is}
use Rattle.scheduling.proofs.turns.is_offered.Goals as goal

pub returns-else-not-is_same : goal.returns-else-not-is_same
returns-else-not-is_same c =
    let less : c.in-Some.parent < c.args.node = c.in-Some.ensures.smaller in
    let inside : c.args.node < size c.args.plan.now.tree = c.requires.inside in
    let len = c.requires.linked.first_len in
    let child : IsChild c.args.plan.now.tree c.in-Some.parent c.args.node = subst (λ (t : Nodes). IsChild t c.in-Some.parent c.args.node) c.tree.ensures.same c.in-Some.ensures.parent in
    c.eq.ensures ∙ offered_is c.args.plan.now c.tree.ensures.tree c.in-Some.parent c.args.node child
    (ap is_spare (sym (c.role.ensures ∙ ap (λ (t : Nodes). role_of t c.args.node) c.tree-2.ensures.same)) ∙ sym c.is_spare.ensures ∙ c.if-is_spare.false)
    _ (λ a b. refl) (sym child.parent) (sym c.is_same.ensures ∙ c.if-not-is_same.false) c.index-else-not-is_same.result.now
    (sym (c.index-else-not-is_same.ensures
    ∙ ap (λ (k : ℕ). get_or c.args.same.now.first.items k c.index-else-not-is_same.result.now) c.index.ensures.same
    ∙ get_or_default c.args.same.now.first.items c.in-Some.parent c.index-else-not-is_same.result.now None (omega (arith, less, inside, len))
    ∙ c.requires.linked.first c.in-Some.parent (omega (arith, less, inside))))

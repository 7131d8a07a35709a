-- The after-body that a tree gives is the one that is run.
use Rattle.std.proofs.Common.{◌≡◌, ◌==◌, ◌∙◌, sym, ap, ℕ, List, length}
use Rattle.descriptor.specs.Nodes.{Nodes, children_of, after_of}
use Rattle.scheduling.proofs.ChildLists.{after_none, after_some}
use Rattle.scheduling.proofs.choices.after_run.Goals as goal

pub returns-then-is_empty : goal.returns-then-is_empty
returns-then-is_empty c =
    let kids : c.children.result.now ≡ children_of c.args.plan.now.tree c.args.node = c.children.ensures ∙ ap (λ (t : Nodes). children_of t c.args.node) c.tree.ensures.same in
    sym (after_none c.args.plan.now c.args.node c.tree.ensures.tree (ap (λ (l : List ℕ). length l == 0) (sym kids) ∙ sym c.is_empty.ensures ∙ c.if-is_empty.true))

pub returns-else-is_empty : goal.returns-else-is_empty
returns-else-is_empty c =
    let kids : c.children.result.now ≡ children_of c.args.plan.now.tree c.args.node = c.children.ensures ∙ ap (λ (t : Nodes). children_of t c.args.node) c.tree.ensures.same in
    c.after.ensures ∙ ap (λ (t : Nodes). after_of t c.args.node) c.tree-else-is_empty.ensures.same
    ∙ sym (after_some c.args.plan.now c.args.node c.tree.ensures.tree (ap (λ (l : List ℕ). length l == 0) (sym kids) ∙ sym c.is_empty.ensures ∙ c.if-is_empty.false))

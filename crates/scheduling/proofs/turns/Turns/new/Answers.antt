-- The lists of both choices are as long as the tree, and say which nodes are chosen.
use Rattle.std.proofs.Common.{◌∙◌, ap, sym, subst}
use Rattle.descriptor.specs.Nodes.{Nodes, size}
use Rattle.scheduling.specs.LinkLists.{IsLinked, chosen_child, stays, is_offered}
use Rattle.scheduling.proofs.Batch.{table_size, same_linked, batch_linked}
use Rattle.scheduling.proofs.turns.Turns.new.Goals as goal

pub new-requires : goal.new-requires
new-requires c = table_size c.args.plan.now (stays c.args.plan.now) c.deref.result.now (c.deref.ensures.value ∙ c.in_ok-same_nodes.ensures) ∙ sym (ap (λ (t : Nodes). size t) c.tree.ensures.same)

pub offered_nodes-requires : goal.offered_nodes-requires
offered_nodes-requires c =
    same_linked c.args.plan.now c.deref.result.now c.in_ok-same.same (c.deref.ensures.value ∙ c.in_ok-same_nodes.ensures)
    (subst (λ (t : Nodes). IsLinked t (chosen_child t c.deref.result.now) c.in_ok-same.same) c.tree.ensures.same c.in_ok-same.ensures)

pub new-requires-2 : goal.new-requires-2
new-requires-2 c = table_size c.args.plan.now (is_offered c.args.plan.now) c.deref-2.result.now (c.deref-2.ensures.value ∙ c.in_ok-offered_nodes.ensures) ∙ sym (ap (λ (t : Nodes). size t) c.tree-2.ensures.same)

pub returns : goal.returns
returns c = record {
  batch = batch_linked c.args.plan.now c.deref-2.result.now c.in_ok-batch.batch (c.deref-2.ensures.value ∙ c.in_ok-offered_nodes.ensures)
      (subst (λ (t : Nodes). IsLinked t (chosen_child t c.deref-2.result.now) c.in_ok-batch.batch) c.tree-2.ensures.same c.in_ok-batch.ensures);
  same = same_linked c.args.plan.now c.deref.result.now c.in_ok-same.same (c.deref.ensures.value ∙ c.in_ok-same_nodes.ensures)
      (subst (λ (t : Nodes). IsLinked t (chosen_child t c.deref.result.now) c.in_ok-same.same) c.tree.ensures.same c.in_ok-same.ensures);
}

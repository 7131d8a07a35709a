-- One more node.
use Rattle.std.proofs.Common.{◌≡◌, ◌∙◌, ap, arith}
use Rattle.descriptor.specs.Nodes.{size}
use Rattle.resource_locks.specs.Held.{table}
use Rattle.scheduling.specs.LinkLists.{is_offered}
use Rattle.scheduling.proofs.Batch.{table_more}
use Rattle.scheduling.proofs.turns.offered_nodes.Goals as goal

pub loop-number-preserved : goal.loop-number-preserved
loop-number-preserved c =
    c.in_ok-push.ensures.items ∙ table_more (is_offered c.args.plan.now) c.loop-number.number c.loop-number.nodes.items c.is_offered.result c.loop-number.invariant (c.is_offered.ensures ∙ ap (is_offered c.args.plan.now) c.new.ensures)

pub returns : goal.returns
returns c =
    let all : c.loop-number.number ≡ size c.args.plan.now.tree = omega (arith, ap size c.tree.ensures.same, ap size c.tree-2.ensures.same) in
    c.loop-number.invariant ∙ ap (table (is_offered c.args.plan.now)) all

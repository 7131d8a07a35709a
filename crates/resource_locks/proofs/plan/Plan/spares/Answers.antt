-- One more node.
use Rattle.std.proofs.Common.{arith, true, false}
use Rattle.std.proofs.lemmas.Grind.{common_steps}
use Rattle.descriptor.specs.Nodes.{is_spare_at}
use Rattle.resource_locks.proofs.Plans.{count_next}
use Rattle.resource_locks.proofs.plan.Plan.spares.Goals.{then-is_spare, else-is_spare}
use Rattle.resource_locks.proofs.plan.Plan.spares.Goals as goal

pub loop-node-preserved : goal.loop-node-preserved
loop-node-preserved c = elim c.if-is_spare.branch [
  | then-is_spare w ↦ record {
    counted = count_next (is_spare_at c.args.self.now.tree) c.loop-node.node c.if-is_spare.spares c.loop-node.spares true c.loop-node.invariant.counted (grind (arith, common_steps)) (grind (arith, common_steps));
    few = grind (arith, common_steps);
  }
  | else-is_spare w ↦ record {
    counted = count_next (is_spare_at c.args.self.now.tree) c.loop-node.node c.if-is_spare.spares c.loop-node.spares false c.loop-node.invariant.counted (grind (arith, common_steps)) (grind (arith, common_steps));
    few = grind (arith, common_steps);
  }
]

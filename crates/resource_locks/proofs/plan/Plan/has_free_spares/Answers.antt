-- One more node, and all of them.
use Rattle.std.proofs.Common.{◌≡◌, ◌&&◌, ◌==◌, not, false, length, arith}
use Rattle.std.proofs.lemmas.Grind.{common_steps}
use Rattle.descriptor.specs.Nodes.{is_spare_at}
use Rattle.resource_locks.specs.Plans.{held_of}
use Rattle.resource_locks.proofs.Spares.{next_free}
use Rattle.resource_locks.proofs.plan.Plan.has_free_spares.Goals as goal

pub loop-node-preserved : goal.loop-node-preserved
loop-node-preserved c =
    let free : (is_spare_at c.args.self.now.tree c.loop-node.node && not (length (held_of c.args.self.now c.loop-node.node) == 0)) ≡ false = grind (arith, common_steps) in
    next_free c.args.self.now c.loop-node.node c.loop-node.invariant free

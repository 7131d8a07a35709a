-- One more node.
use Rattle.std.proofs.Common.{◌≡◌, arith}
use Rattle.std.proofs.lemmas.Grind.{common_steps}
use Rattle.descriptor.specs.Nodes.{locks_of}
use Rattle.resource_locks.specs.Declarations.{declared_of}
use Rattle.resource_locks.proofs.Numbering.{node_next}
use Rattle.resource_locks.proofs.lock_names.LockNames.of.Goals as goal

pub loop-node-preserved : goal.loop-node-preserved
loop-node-preserved c =
    let locks : c.locks.result.now ≡ locks_of c.args.tree.now c.loop-node.node = grind (arith, common_steps) in
    node_next (declared_of c.args.tree.now) c.loop-node.node c.loop-node.names c.add_all.new.self c.locks.result.now c.loop-node.invariant locks c.in_ok-add_all.ensures

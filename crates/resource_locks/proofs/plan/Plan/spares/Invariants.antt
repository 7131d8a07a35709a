-- The spares so far are counted.
use Rattle.std.proofs.Common.{◌≡◌, ◌≤◌}
use Rattle.descriptor.specs.Nodes.{count_below, is_spare_at}
use Rattle.resource_locks.proofs.plan.Plan.spares.Given as goal

abbrev pub invariant-loop-node : goal.invariant-loop-node
invariant-loop-node l = record {
  counted : l.spares ≡ count_below (is_spare_at l.self.tree) l.node;
  few : l.spares ≤ l.node;
}

-- So many of the nodes so far are children of the node above.
use Rattle.std.proofs.Common.{◌≡◌, ◌≤◌}
use Rattle.descriptor.specs.Nodes.{count_below, is_child}
use Rattle.tree_orders.proofs.place.elders.Given as goal

abbrev pub invariant-loop-number : goal.invariant-loop-number
invariant-loop-number l = record {
  counted : l.count ≡ count_below (is_child l.tree l.above) l.number;
  few : l.count ≤ l.number;
}

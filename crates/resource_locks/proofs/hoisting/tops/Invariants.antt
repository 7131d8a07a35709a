-- The walk so far.
use Rattle.std.proofs.Common.{◌≡◌, length}
use Rattle.resource_locks.specs.Held.{walk, top_step}
use Rattle.resource_locks.proofs.hoisting.tops.Given as goal

abbrev pub invariant-loop-node : goal.invariant-loop-node
invariant-loop-node l = record {
  so_far : l.tops.items ≡ walk l.tree (top_step l.tree) 0 l.node;
  len : length l.tops.items ≡ l.node;
}

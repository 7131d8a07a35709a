-- The walk so far.
use Rattle.std.proofs.Common.{◌≡◌, length}
use Rattle.resource_locks.specs.Declarations.{declared_of}
use Rattle.resource_locks.specs.Held.{walk, holder_step}
use Rattle.resource_locks.proofs.hoisting.holders.Given as goal

abbrev pub invariant-loop-node : goal.invariant-loop-node
invariant-loop-node l = record {
  so_far : l.holders.items ≡ walk l.tree (holder_step (declared_of l.tree)) 0 l.node;
  len : length l.holders.items ≡ l.node;
}

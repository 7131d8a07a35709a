-- The sets so far.
use Rattle.std.proofs.Common.{◌≡◌, length}
use Rattle.resource_locks.specs.Declarations.{declared_of}
use Rattle.resource_locks.specs.Held.{table, own}
use Rattle.resource_locks.proofs.hoisting.own.Given as goal

abbrev pub invariant-loop-node : goal.invariant-loop-node
invariant-loop-node l = record {
  so_far : l.sets.items ≡ table (own (declared_of l.tree)) l.node;
  len : length l.sets.items ≡ l.node;
}

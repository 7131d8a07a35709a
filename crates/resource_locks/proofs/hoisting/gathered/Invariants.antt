-- Each node holds what it gathers from the nodes so far.
use Rattle.std.proofs.Common.{◌≡◌, ℕ, ◌<◌, [], length, get_or}
use Rattle.descriptor.specs.Nodes.{size}
use Rattle.resource_locks.specs.Declarations.{declared_of}
use Rattle.resource_locks.specs.Held.{gathered}
use Rattle.resource_locks.proofs.hoisting.gathered.Given as goal

abbrev pub invariant-loop-node : goal.invariant-loop-node
invariant-loop-node l = record {
  len : length l.sets.items ≡ size l.tree;
  each : (k : ℕ) → k < size l.tree → get_or l.sets.items k [] ≡ gathered (declared_of l.tree) k l.node;
}

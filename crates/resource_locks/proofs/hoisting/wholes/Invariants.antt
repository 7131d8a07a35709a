-- Each node is told of the isolated ones so far.
use Rattle.std.proofs.Common.{◌≡◌, ℕ, ◌<◌, ◌&&◌, eqb, false, length, get_or}
use Rattle.descriptor.specs.Nodes.{size}
use Rattle.resource_locks.specs.Declarations.{declared_of}
use Rattle.resource_locks.specs.Held.{any_below, top_of, isolates}
use Rattle.resource_locks.proofs.hoisting.wholes.Given as goal

abbrev pub invariant-loop-node : goal.invariant-loop-node
invariant-loop-node l = record {
  len : length l.wholes.items ≡ size l.tree;
  each : (k : ℕ) → k < size l.tree → get_or l.wholes.items k false ≡ any_below (λ m. eqb (top_of l.tree m) k && isolates (declared_of l.tree) m) l.node;
}

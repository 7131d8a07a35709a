-- The modes of the nodes so far, and the walk so far.
use Rattle.std.proofs.Common.{◌≡◌, ℕ, ◌<◌, ◌≤◌, false, length, get_or}
use Rattle.descriptor.specs.Nodes.{size}
use Rattle.descriptor.specs.declared.mode.Mode.TheVariants.{SameThread}
use Rattle.resource_locks.specs.Declarations.{declared_of}
use Rattle.resource_locks.specs.Held.{walk, writer_step, hoisted_mode}
use Rattle.resource_locks.proofs.hoisting.hoisted_modes.Given as goal

abbrev pub invariant-loop-node : goal.invariant-loop-node
invariant-loop-node l = record {
  writers : l.writers.items ≡ walk l.tree (writer_step (declared_of l.tree)) false l.node;
  writers_len : length l.writers.items ≡ l.node;
  passed : (k : ℕ) → k < l.node → get_or l.modes.items k SameThread ≡ hoisted_mode (declared_of l.tree) l.fn.given.items k;
  rest : (k : ℕ) → l.node ≤ k → get_or l.modes.items k SameThread ≡ get_or l.fn.given.items k SameThread;
  len : length l.modes.items ≡ size l.tree;
}

-- The locks of the nodes so far.
use Rattle.std.proofs.Common.{◌≡◌}
use Rattle.resource_locks.specs.Declarations.{declared_of}
use Rattle.resource_locks.specs.Keys.{keys_upto}
use Rattle.resource_locks.proofs.lock_names.LockNames.of.Given as goal

abbrev pub invariant-loop-node : goal.invariant-loop-node
invariant-loop-node l = l.names ≡ keys_upto (declared_of l.tree) l.node

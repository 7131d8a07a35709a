-- No spare so far holds a key.
use Rattle.std.proofs.Common.{◌≡◌, ℕ, ◌<◌, true, []}
use Rattle.descriptor.specs.Nodes.{is_spare_at}
use Rattle.resource_locks.specs.Plans.{held_of}
use Rattle.resource_locks.proofs.plan.Plan.has_free_spares.Given as goal

abbrev pub invariant-loop-node : goal.invariant-loop-node
invariant-loop-node l = (n : ℕ) → n < l.node → is_spare_at l.self.tree n ≡ true → held_of l.self n ≡ []

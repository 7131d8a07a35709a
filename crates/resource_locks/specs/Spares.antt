-- When no spare holds a key.
use Rattle.std.specs.Prelude.{◌≡◌, ℕ, true, false, []}
use Rattle.descriptor.specs.Nodes.{Nodes, IsChild, is_spare_at, is_factory_at, locks_of}
use Rattle.resource_locks.specs.Plans.{PlanParts, held_of}

-- no spare holds a key
abbrev pub HasFreeSpares : PlanParts → Type 0
HasFreeSpares p = (n : ℕ) → is_spare_at p.tree n ≡ true → held_of p n ≡ []

-- no spare declares a lock; and no engine is a factory, since its spares would hold the global key
pub record HasBareSpares (t : Nodes) : Type 0 where
  pub locks : (n : ℕ) → is_spare_at t n ≡ true → locks_of t n ≡ []
  pub engines : (e : ℕ) → IsChild t 0 e → is_factory_at t e ≡ false

-- When two sets of locks may not be held side by side.
use Rattle.std.specs.Prelude.{◌≡◌, ℕ, List, ◌⊎◌}
use Rattle.descriptor.specs.declared.lock.Lock.{Lock}
use Rattle.descriptor.specs.declared.lock_mode.LockMode.{LockMode}
use Rattle.descriptor.specs.declared.lock_mode.LockMode.TheVariants.{ReadWrite}
use Rattle.resource_locks.specs.Wants.{HasLock}

-- some key stands in both lists of locks, in one of them in READ_WRITE
pub record AreInConflict (a b : List Lock) : Type 0 where
  pub key : List ℕ
  pub mode : LockMode
  pub here : HasLock a key mode
  pub other_mode : LockMode
  pub there : HasLock b key other_mode
  pub writes : (mode ≡ ReadWrite) ⊎ (other_mode ≡ ReadWrite)

-- When declared locks are moved up to the nodes that are to hold them.
use Rattle.std.specs.Prelude.{◌≡◌, ℕ, List}
use Rattle.descriptor.specs.Nodes.{Below}
use Rattle.descriptor.specs.declared.lock_mode.LockMode.{LockMode}
use Rattle.descriptor.specs.declared.lock_mode.LockMode.TheVariants.{Read, ReadWrite}
use Rattle.descriptor.specs.declared.mode.Mode.{Mode}
use Rattle.descriptor.specs.declared.mode.Mode.TheVariants.{SameThread}
use Rattle.resource_locks.specs.Plans.{PlanParts, held_of, mode_of}
use Rattle.resource_locks.specs.Wants.{HasLock}
use Rattle.resource_locks.specs.Declarations.{Declared, AtOrBelow, Declares, IsToHold}

-- the held sets and the modes are those of nodes that declare this and were given these modes
pub record IsHoisted (d : Declared) (given : ℕ → Mode) (h : PlanParts) : Type 0 where
  -- what a node is to hold in READ_WRITE it holds so, and what it is to hold in READ it holds in one mode
  pub writes : (n : ℕ) (key : List ℕ) → IsToHold d n key ReadWrite → HasLock (held_of h n) key ReadWrite
  pub reads : (n : ℕ) (key : List ℕ) → IsToHold d n key Read → (mode : LockMode) × HasLock (held_of h n) key mode
  -- it holds nothing else, and no key in two modes
  pub only : (n : ℕ) (key : List ℕ) (mode : LockMode) → HasLock (held_of h n) key mode → IsToHold d n key mode
  pub one_mode : (n : ℕ) (key : List ℕ) (a b : LockMode) → HasLock (held_of h n) key a → HasLock (held_of h n) key b → a ≡ b
  -- below a node that holds a key in READ_WRITE all run on one thread; else each node has the mode that it was given
  pub forced : (a n : ℕ) (key : List ℕ) → HasLock (held_of h a) key ReadWrite → Below d.tree a n → mode_of h n ≡ SameThread
  pub free : (n : ℕ) → ((a : ℕ) (key : List ℕ) → HasLock (held_of h a) key ReadWrite → Below d.tree a n → ⊥) → mode_of h n ≡ given n

-- a node at or above n that holds the key, and in READ_WRITE where that is asked for
pub record IsHeldFor (d : Declared) (h : PlanParts) (n : ℕ) (key : List ℕ) (mode : LockMode) : Type 0 where
  pub node : ℕ
  pub above : AtOrBelow d.tree node n
  pub held_mode : LockMode
  pub holds : HasLock (held_of h node) key held_mode
  pub writes : mode ≡ ReadWrite → held_mode ≡ ReadWrite

-- what keeps two nodes whose declared locks conflict from running side by side: all that a node declares, itself or
-- above it, is held at or above it, and below a holder in READ_WRITE all run on one thread
pub record IsGuarded (d : Declared) (h : PlanParts) : Type 0 where
  pub holder : (n : ℕ) (key : List ℕ) (mode : LockMode) → Declares d n key mode → IsHeldFor d h n key mode
  pub forced : (a n : ℕ) (key : List ℕ) → HasLock (held_of h a) key ReadWrite → Below d.tree a n → mode_of h n ≡ SameThread

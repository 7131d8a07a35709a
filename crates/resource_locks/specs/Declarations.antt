-- What nodes declare, and which node is to hold it while it runs.
use Rattle.std.specs.Prelude.{◌≡◌, ◌≢◌, ℕ, ◌<◌, Bool, true, List, [], codes, ◌⊎◌}
use Rattle.descriptor.specs.Nodes.{Nodes, IsChild, Below, size, parent_of, locks_of, is_isolated_at}
use Rattle.descriptor.specs.declared.lock.Lock.{Lock}
use Rattle.descriptor.specs.declared.lock_mode.LockMode.{LockMode}
use Rattle.descriptor.specs.declared.lock_mode.LockMode.TheVariants.{Read, ReadWrite}
use Rattle.resource_locks.specs.Wants.{HasLock}

-- a tree, the locks that each node declares, and whether the node is isolated
pub record Declared : Type 0 where
  pub tree : Nodes
  pub locks : ℕ → List Lock
  pub isolated : ℕ → Bool

-- what the nodes of a tree declare
abbrev pub declared_of : Nodes → Declared
declared_of t = record { tree = t; locks = locks_of t; isolated = is_isolated_at t }

-- the key that each child of an engine holds, for all that is below it
abbrev pub global : List ℕ
global = codes "GLOBAL"

-- n is a, or is below it
abbrev pub AtOrBelow : Nodes → ℕ → ℕ → Type 0
AtOrBelow t a n = (a ≡ n) ⊎ Below t a n

-- the node is a child of an engine
pub record IsTop (t : Nodes) (c : ℕ) : Type 0 where
  pub engine : ℕ
  pub of_plan : IsChild t 0 engine
  pub child : IsChild t engine c

-- the node is neither the plan nor an engine
pub record IsDeep (t : Nodes) (n : ℕ) : Type 0 where
  pub above_zero : 0 < n
  pub inside : n < size t
  pub parent : parent_of t n ≢ 0

-- there is the plan, and a parent has a smaller number
pub record IsRooted (t : Nodes) : Type 0 where
  pub root : 0 < size t
  pub up : (n : ℕ) → 0 < n → n < size t → parent_of t n < n

-- besides, the plan and engines declare nothing
pub record IsLockTree (d : Declared) : Type 0 where
  pub rooted : IsRooted d.tree
  pub locked : (n : ℕ) → d.locks n ≢ [] → IsDeep d.tree n
  pub isolated : (n : ℕ) → d.isolated n ≡ true → IsDeep d.tree n

-- A lock that is declared at node n itself: one of its own; the global one in READ_WRITE where it is isolated; and in
-- READ below an engine.
abbrev pub DeclaresItself : Declared → ℕ → List ℕ → LockMode → Type 0
DeclaresItself d n key mode =
    HasLock (d.locks n) key mode
    ⊎ (((d.isolated n ≡ true) × (key ≡ global) × (mode ≡ ReadWrite))
    ⊎ (((c : ℕ) × IsTop d.tree c × AtOrBelow d.tree c n) × (key ≡ global) × (mode ≡ Read)))

-- a lock that is declared at node n or at a node above it
abbrev pub Declares : Declared → ℕ → List ℕ → LockMode → Type 0
Declares d n key mode = (a : ℕ) × (AtOrBelow d.tree a n × DeclaresItself d a key mode)

-- a lock that is declared by a node at or below n
abbrev pub DeclaredWithin : Declared → ℕ → List ℕ → LockMode → Type 0
DeclaredWithin d n key mode = (m : ℕ) × (AtOrBelow d.tree n m × HasLock (d.locks m) key mode)

-- a node at or below c is isolated, or declares the global lock in READ_WRITE
abbrev pub HasIsolated : Declared → ℕ → Type 0
HasIsolated d c = (m : ℕ) × (AtOrBelow d.tree c m × ((d.isolated m ≡ true) ⊎ HasLock (d.locks m) global ReadWrite))

-- the node declares locks, and none above it does
pub record IsFirstToDeclare (d : Declared) (n : ℕ) : Type 0 where
  pub declares : d.locks n ≢ []
  pub none_above : (a : ℕ) → Below d.tree a n → d.locks a ≡ []

-- A lock that node n is to hold, by the child c of an engine that it is at or below.
pub data IsToHold (d : Declared) (n : ℕ) (key : List ℕ) (mode : LockMode) : Type 0 where
  -- c itself: the global lock in READ_WRITE and all locks at or below it, where one of these is isolated
  isolated_all : IsTop d.tree n → HasIsolated d n → (key ≡ global) × (mode ≡ ReadWrite) ⊎ DeclaredWithin d n key mode → IsToHold d n key mode
  -- else the global lock in READ
  global_read : IsTop d.tree n → (HasIsolated d n → ⊥) → key ≡ global → mode ≡ Read → IsToHold d n key mode
  -- and the first node to declare locks holds all that are declared at or below it
  first : (c : ℕ) → IsTop d.tree c → (HasIsolated d c → ⊥) → AtOrBelow d.tree c n → IsFirstToDeclare d n → DeclaredWithin d n key mode → IsToHold d n key mode

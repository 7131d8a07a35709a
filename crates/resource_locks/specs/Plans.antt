-- Plans as contracts see them.
use Rattle.std.specs.Prelude.{◌≡◌, ℕ, ◌+◌, ◌*◌, ◌<◌, ◌≤◌, Bool, List, [], length, map, slice_index_or}
use Rattle.std.specs.List.{position_or_len}
use Rattle.std.specs.Str.{bytes_eq}
use Rattle.descriptor.specs.Nodes.{Nodes, IsTree, Below, size, count_below, is_spare_at}
use Rattle.descriptor.specs.declared.lock.Lock.{Lock}
use Rattle.descriptor.specs.declared.lock_mode.LockMode.{LockMode}
use Rattle.descriptor.specs.declared.lock_mode.LockMode.TheVariants.{Read}
use Rattle.descriptor.specs.declared.mode.Mode.{Mode}
use Rattle.descriptor.specs.declared.mode.Mode.TheVariants.{SameThread}
use Rattle.resource_locks.specs.declared.fault.PlanFault.{PlanFault}
use Rattle.resource_locks.specs.declared.fault.PlanFault.TheVariants.{NoMemory, TooManyKeys}
use Rattle.resource_locks.specs.Declarations.{global}
use Rattle.resource_locks.specs.Wants.{HasLock}
use Rattle.resource_locks.specs.LockSets.{IsLockSet}

-- a tree, how each node is executed, and which locks it holds meanwhile
pub record PlanParts : Type 0 where
  pub tree : Nodes
  pub modes : List Mode
  pub held : List (List Lock)
  -- the keys that are held, at least; the number of a key is its place here
  pub keys : List (List ℕ)
  -- how many nodes may hold each of these at once: 0, or no entry, where that is not limited
  pub limits : List ℕ
  -- whether nothing more is to start once more nodes have failed than are tolerated
  pub fail_fast : Bool
  pub tolerated : ℕ

-- the execution mode of node n
abbrev pub mode_of : PlanParts → ℕ → Mode
mode_of p n = slice_index_or p.modes n SameThread

-- the set of locks that node n holds
abbrev pub held_of : PlanParts → ℕ → List Lock
held_of p n = slice_index_or p.held n []

-- the number of a key among others
abbrev pub number_of : List (List ℕ) → List ℕ → ℕ
number_of keys key = position_or_len (bytes_eq key) keys

-- the numbers of the keys of a set of locks
abbrev pub numbers_of : List (List ℕ) → List Lock → List ℕ
numbers_of keys locks = map (λ lock. number_of keys lock.key) locks

-- the number of the key at a place of the set that node n holds
abbrev pub key_number : PlanParts → ℕ → ℕ → ℕ
key_number p n place = slice_index_or (numbers_of p.keys (held_of p n)) place 0

-- how many nodes may hold the key with this number at once; 0 where that is not limited
abbrev pub limit_of : PlanParts → ℕ → ℕ
limit_of p number = slice_index_or p.limits number 0

-- how many may hold this key
abbrev pub limit_for : PlanParts → List ℕ → ℕ
limit_for p key = limit_of p (number_of p.keys key)

-- the greatest number of events: two for each node, the plan's included, and one more for each spare
abbrev pub most_events : PlanParts → ℕ
most_events p = 2 * size p.tree + count_below (is_spare_at p.tree) (size p.tree)

-- what is told of a plan's nodes fits together
pub record IsPlan (p : PlanParts) : Type 0 where
  pub tree : IsTree p.tree
  -- each node has a mode, and a set of locks
  pub modes_len : length p.modes ≡ size p.tree
  pub held_len : length p.held ≡ size p.tree
  -- each key that a node holds stands once, and they stand in byte order
  pub sets : (n : ℕ) → IsLockSet (held_of p n)
  -- of a node and one below it neither writes a key that both hold
  pub lines : (a n : ℕ) (key : List ℕ) (m m2 : LockMode) → Below p.tree a n → HasLock (held_of p a) key m → HasLock (held_of p n) key m2 → (m ≡ Read) × (m2 ≡ Read)
  -- above a node that holds a key a node holds the global one, in READ, and no other
  pub layers : (a n : ℕ) (key other : List ℕ) (m m2 : LockMode) → Below p.tree a n → HasLock (held_of p a) key m → HasLock (held_of p n) other m2 → (key ≡ global) × (m ≡ Read)
  -- at most 256 keys, and each that is held is one of them
  pub few : length p.keys ≤ 256
  pub numbered : (n : ℕ) (key : List ℕ) (mode : LockMode) → HasLock (held_of p n) key mode → number_of p.keys key < length p.keys
  -- the global key, which a node may hold below another that does, is not limited
  pub unlimited : limit_for p global ≡ 0

-- the number of a refusal, and 0 for want of memory
abbrev pub fault_number : PlanFault → ℕ
fault_number NoMemory = 0
fault_number TooManyKeys = 50

-- In which mode a list of locks wants a key.
use Rattle.std.specs.Prelude.{◌≡◌, ℕ, Bool, true, false, cond, List, [], ◌∷◌, Option, Some, None, slice_get}
use Rattle.std.specs.List.{list_any}
use Rattle.std.specs.Str.{bytes_eq}
use Rattle.descriptor.specs.declared.lock.Lock.{Lock}
use Rattle.descriptor.specs.declared.lock_mode.LockMode.{LockMode}
use Rattle.descriptor.specs.declared.lock_mode.LockMode.TheVariants.{Read, ReadWrite}

-- whether a mode excludes every other holder of the key
abbrev pub is_write : LockMode → Bool
is_write Read = false
is_write ReadWrite = true

-- of two modes in which one key is wanted READ_WRITE wins
abbrev pub stronger : LockMode → LockMode → LockMode
stronger Read b = b
stronger ReadWrite b = ReadWrite

-- the mode in which a key is wanted of two in which it may be wanted: the stronger of both, if there are two
abbrev pub either : Option LockMode → Option LockMode → Option LockMode
either None b = b
either (Some a) None = Some a
either (Some a) (Some b) = Some (stronger a b)

-- the mode in which a lock wants a key
abbrev pub mode_by : List ℕ → Lock → Option LockMode
mode_by key l = cond (bytes_eq key l.key) (Some l.mode) None

-- the strongest mode in which a list of locks wants a key: READ_WRITE where one of them does
abbrev pub mode_for : List ℕ → List Lock → Option LockMode
mode_for key [] = None
mode_for key (l ∷ s) = either (mode_by key l) (mode_for key s)

-- some lock of the list is in READ_WRITE
abbrev pub writes : List Lock → Bool
writes s = list_any (λ l. is_write l.mode) s

-- a lock of the list has the key in this mode
abbrev pub HasLock : List Lock → List ℕ → LockMode → Type 0
HasLock s key m = (i : ℕ) × (slice_get s i ≡ Some (record { key = key; mode = m }))

-- each key is wanted in the stronger of the modes in which a and b want it
abbrev pub WantsBoth : List Lock → List Lock → List Lock → Type 0
WantsBoth a b s = (key : List ℕ) → mode_for key s ≡ either (mode_for key a) (mode_for key b)

-- two lists of locks want each key in one mode
abbrev pub WantSame : List Lock → List Lock → Type 0
WantSame a b = (key : List ℕ) → mode_for key a ≡ mode_for key b

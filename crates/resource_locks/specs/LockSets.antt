-- Sets of locks: lists with each key once, in byte order of the keys.
use Rattle.std.specs.Prelude.{◌≡◌, ℕ, List, [], ◌∷◌, Some, slice_get}
use Rattle.std.specs.Cmp.Lexicographic.{slice_cmp}
use Rattle.std.specs.Ordering.{nat_cmp}
use Rattle.std.specs.declared.cmp.Ordering.{Ordering}
use Rattle.std.specs.declared.cmp.Ordering.TheVariants.{Less, Equal, Greater}
use Rattle.descriptor.specs.declared.lock.Lock.{Lock}
use Rattle.resource_locks.specs.Wants.{stronger}

-- byte order
abbrev pub key_cmp : List ℕ → List ℕ → Ordering
key_cmp = slice_cmp nat_cmp

-- a key comes before those of all these locks
abbrev pub IsBelowAll : List ℕ → List Lock → Type 0
IsBelowAll key s = (i : ℕ) (l : Lock) → slice_get s i ≡ Some l → key_cmp key l.key ≡ Less

-- each key stands once, and they stand in byte order
abbrev pub IsLockSet : List Lock → Type 0
IsLockSet [] = Unit {0}
IsLockSet (l ∷ s) = IsBelowAll l.key s × IsLockSet s

-- the lock before this first one of a set, joined with it, or somewhere in the rest
abbrev pub put_by : Ordering → Lock → Lock → List Lock → List Lock → List Lock
put_by Less l x s rest = l ∷ x ∷ s
put_by Equal l x s rest = record { key = x.key; mode = stronger x.mode l.mode } ∷ s
put_by Greater l x s rest = x ∷ rest

-- the set with one more lock
abbrev pub put : Lock → List Lock → List Lock
put l [] = l ∷ []
put l (x ∷ s) = put_by (key_cmp l.key x.key) l x s (put l s)

-- the set with the locks of a list
abbrev pub join : List Lock → List Lock → List Lock
join s [] = s
join s (l ∷ more) = join (put l s) more

-- the set of the locks of a list
abbrev pub of : List Lock → List Lock
of locks = join [] locks

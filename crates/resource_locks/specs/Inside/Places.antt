-- Where in a set a key stands, or would stand, which only proofs need.
use Rattle.std.specs.Prelude.{◌≡◌, ℕ, ◌<◌, ◌≤◌, List, length, Some, slice_get}
use Rattle.std.specs.declared.cmp.Ordering.TheVariants.{Less, Equal, Greater}
use Rattle.descriptor.specs.declared.lock.Lock.{Lock}
use Rattle.resource_locks.specs.LockSets.{key_cmp}

-- the key comes after those of the first n locks
abbrev pub IsEarlier : List Lock → List ℕ → ℕ → Type 0
IsEarlier s key n = (i : ℕ) (l : Lock) → i < n → slice_get s i ≡ Some l → key_cmp key l.key ≡ Greater

-- the key comes before those of the locks from place n on
abbrev pub IsLater : List Lock → List ℕ → ℕ → Type 0
IsLater s key n = (i : ℕ) (l : Lock) → n ≤ i → slice_get s i ≡ Some l → key_cmp key l.key ≡ Less

-- the key stands at place n
pub record IsHere (s : List Lock) (key : List ℕ) (n : ℕ) : Type 0 where
  pub lock : Lock
  pub stands : slice_get s n ≡ Some lock
  pub same : key_cmp key lock.key ≡ Equal
  pub earlier : IsEarlier s key n

-- the key stands nowhere, and belongs before place n
pub record IsBefore (s : List Lock) (key : List ℕ) (n : ℕ) : Type 0 where
  pub inside : n ≤ length s
  pub earlier : IsEarlier s key n
  pub later : IsLater s key n

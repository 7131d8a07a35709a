-- The attribute `lock=KEY`, `lock=KEY:r` or `lock=KEY:rw`: a resource that a node uses, and how.
use Rattle.std.specs.Prelude.{◌≡◌, ◌<◌, ◌≤◌, ℕ, ◌==◌, ◌-◌, nat_eq, Bool, List, length, take, codes, if◌then◌else◌, Result, Ok, Err}
use Rattle.std.specs.List.{ends_with}
use Rattle.descriptor.specs.declared.lock.Lock.{Lock}
use Rattle.descriptor.specs.declared.lock_mode.LockMode.TheVariants.{Read, ReadWrite}
use Rattle.resource_locks.specs.LockSets.{put}
use Rattle.suite_words.specs.declared.suite.fault.SuiteFault.{SuiteFault}
use Rattle.suite_words.specs.declared.suite.fault.SuiteFault.TheVariants.{BadLine}

-- whether a text ends in another
abbrev pub ends_in : List ℕ → List ℕ → Bool
ends_in text end = ends_with nat_eq text end

-- a text without so many bytes at its end
abbrev pub without_last : ℕ → List ℕ → List ℕ
without_last n text = take (length text - n) text

-- the lock that a value of `lock` names: READ where `:r` ends it, READ_WRITE where `:rw` does; without one of them all of it is the key, in READ_WRITE
abbrev pub lock_of : List ℕ → Lock
lock_of value =
    if ends_in value (codes ":r") then record { key = without_last 2 value; mode = Read }
    else (if ends_in value (codes ":rw") then record { key = without_last 3 value; mode = ReadWrite } else record { key = value; mode = ReadWrite })

-- a set of locks with the one that a value names; a faulty line where its key is empty
abbrev pub with_lock_of : ℕ → List Lock → List ℕ → Result (List Lock) SuiteFault
with_lock_of number locks value = if length (lock_of value).key == 0 then Err (BadLine number) else Ok (put (lock_of value) locks)

-- these are all the locks, or both are more than a node may have
pub record StandFor (few all : List Lock) : Type 0 where
  pub same : length all ≤ 16 → few ≡ all
  pub more : 16 < length all → 16 < length few

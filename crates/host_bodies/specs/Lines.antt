-- Lines that are read, and why one is not.
use Rattle.std.specs.Prelude.{◌≡◌, ℕ, ◌-◌, ◌<◌, ◌==◌, Bool, true, false, List, length, take, Option, ◌++◌, ◌∷◌, []}
use Rattle.std.specs.List.{list_any}
use Rattle.std.specs.Io.KnownBytes.{Consumes, IsAtEnd}
use Rattle.host_bodies.specs.declared.silence.Silence.{Silence}
use Rattle.host_bodies.specs.declared.silence.Silence.TheVariants.{NoHost, Unsent, Ended, Unread, TooLong, Unasked, NoAnswer, NoMemory}

abbrev pub is_feed : ℕ → Bool
is_feed b = b == 10

abbrev pub has_feed : List ℕ → Bool
has_feed bytes = list_any is_feed bytes

-- Why these bytes, which were read, are no line, where there is room for so many: the reader gave no more, or failed; there is no room for more; or
-- they end behind a line feed that is not the last byte.
abbrev pub Because : Silence → (most : ℕ) → (left : Option (List ℕ)) → (bytes : List ℕ) → Type 0
Because Ended most left bytes = (has_feed bytes ≡ false) × IsAtEnd left
Because Unread most left bytes = has_feed bytes ≡ false
Because TooLong most left bytes = (has_feed bytes ≡ false) × (length bytes ≡ most)
Because Unasked most left bytes = has_feed (take (length bytes - 1) bytes) ≡ true
Because NoHost most left bytes = ⊥
Because Unsent most left bytes = ⊥
Because NoAnswer most left bytes = ⊥
Because NoMemory most left bytes = ⊥

-- bytes were read that are no line, for this reason
pub record IsCutOff (why : Silence) (most : ℕ) (old new : Option (List ℕ)) : Type 0 where
  pub bytes : List ℕ
  pub read : Consumes old new bytes
  pub because : Because why most new bytes

-- a line of so many bytes was read into the room, and the line feed behind it
pub record IsLine (len : ℕ) (room : List ℕ) (old new : Option (List ℕ)) : Type 0 where
  pub inside : len < length room
  pub flat : has_feed (take len room) ≡ false
  pub read : Consumes old new (take len room ++ 10 ∷ [])

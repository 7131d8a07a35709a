-- What comes in from a reader.
use Rattle.std.specs.Prelude.{ℕ, ◌<◌, ◌≤◌, List, length, Option}
use Rattle.std.specs.Io.KnownBytes.{Consumes, IsAtEnd}

-- the bytes are the reader's next ones, at most so many, and fewer only where the reader is at its end
pub record ReadsFront (old new : Option (List ℕ)) (most : ℕ) (bytes : List ℕ) : Type 0 where
  pub consumed : Consumes old new bytes
  pub fits : length bytes ≤ most
  pub end : length bytes < most → IsAtEnd new

-- the reader gave its next bytes, fewer than so many, before memory ran out or the reader failed
pub record BreaksOff (old new : Option (List ℕ)) (most : ℕ) : Type 0 where
  pub bytes : List ℕ
  pub consumed : Consumes old new bytes
  pub short : length bytes < most

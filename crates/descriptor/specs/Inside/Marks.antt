-- The marks that stand in the bits of words. Only private functions and proofs need this file.
use Rattle.std.specs.Prelude.{ℕ, ◌/◌, ◌%◌, ◌==◌, Bool, List, map, get_or}
use Rattle.std.specs.List.{range_with_len}
use Rattle.std.specs.Int.{bit_at}

-- whether this number is marked
abbrev pub is_marked : List ℕ → ℕ → Bool
is_marked words k = bit_at (get_or words (k / 64) 0) (k % 64) == 1

-- a mark for each number below this one
unfoldable pub marks_in : ℕ → List ℕ → List Bool
marks_in many words = map (is_marked words) (range_with_len 0 many)

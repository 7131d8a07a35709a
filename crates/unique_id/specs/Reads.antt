-- The segments that were read so far, as the reader keeps them.
use Rattle.std.specs.Prelude.{◌≡◌, ◌==◌, ◌+◌, ℕ, List, [], length, Option, Some, None, IfSome}
use Rattle.std.specs.List.{slice_split}
use Rattle.unique_id.specs.declared.read.Read.{Read}
use Rattle.unique_id.specs.declared.unique_id.Segment.{Segment}
use Rattle.unique_id.specs.Spelling.{spelling}

-- these segments were read: they are kept, unless memory ran out, and their number and the length of their spelling are known
pub record IsReadOf (read : Read) (segments : List Segment) : Type 0 where
  pub kept : IfSome read.segments (λ list. list.items ≡ segments)
  pub count : read.count ≡ length segments
  pub spelled : read.spelled ≡ length (spelling segments)

-- the texts between the slashes of a text that is left, if one is
abbrev pub pieces_of : Option (List ℕ) → List (List ℕ)
pieces_of None = []
pieces_of (Some text) = slice_split (λ b. b == 47) text

-- how many bytes are left, the slash before them among them
abbrev pub left_len : Option (List ℕ) → ℕ
left_len None = 0
left_len (Some text) = length text + 1

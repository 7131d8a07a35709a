-- Where a text stops being the beginning of an id.
use Rattle.std.specs.Prelude.{◌≡◌, ◌≢◌, ◌<◌, ◌≤◌, ◌+◌, ℕ, List, ◌++◌, map, length, take, drop}
use Rattle.std.specs.List.{join_with_byte, AllByRecursion}
use Rattle.unique_id.specs.declared.fault.UidFault.{UidFault}
use Rattle.unique_id.specs.declared.fault.UidFault.TheVariants.{NoMemory, Empty, NoBracket, NoColon, BadEscape, EmptyPart, TooLong}
use Rattle.unique_id.specs.declared.unique_id.Segment.{Segment}
use Rattle.unique_id.specs.Grammar.{Item, IsItem, Written, segment_text, IsId}
use Rattle.unique_id.specs.Reading.{part_len}

-- one item or more, whether or not their bytes are UTF-8
pub record AreItems (items : List Item) : Type 0 where
  pub some_item : 0 < length items
  pub each_item : AllByRecursion IsItem items

abbrev pub HasItems : Written → Type 0
HasItems w = AreItems w.kind × AreItems w.value

-- the text is written as an id is, whether or not the bytes of its parts are UTF-8
pub record IsWritten (text : List ℕ) : Type 0 where
  pub written : List Written
  pub some_segment : 0 < length written
  pub each_segment : AllByRecursion HasItems written
  pub text_is : text ≡ join_with_byte 47 (map segment_text written)

-- how many of the bytes from its place on make a fault: of a bad escape those up to the end of its part and this end, of any other one
abbrev pub width : UidFault → List ℕ → ℕ
width NoMemory from_place = 1
width Empty from_place = 1
width (NoBracket place) from_place = 1
width (NoColon place) from_place = 1
width (BadEscape place) from_place = part_len from_place + 1
width (EmptyPart place) from_place = 1
width TooLong from_place = 1

-- the text before the place can be carried on to one that is written as an id is; but no id goes on there as the text does with these many bytes, or with its end
pub record StopsAt (text : List ℕ) (place bytes : ℕ) : Type 0 where
  pub inside : place ≤ length text
  pub before : (rest : List ℕ) × IsWritten (take place text ++ rest)
  pub here : (rest : List ℕ) (segments : List Segment) → IsId (take place text ++ rest) segments → take bytes rest ≢ take bytes (drop place text)

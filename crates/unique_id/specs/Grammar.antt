-- The format of a unique id's text, as trees: items make a part, two parts a segment, and segments with a slash between two an id.
use Rattle.std.specs.Prelude.{◌≡◌, ◌<◌, ◌≤◌, ℕ, ◌==◌, ◌||◌, Bool, false, List, [], ◌∷◌, ◌++◌, map, length, Some}
use Rattle.std.specs.List.{flat_map, join_with_byte, AllByRecursion}
use Rattle.std.specs.Str.{IsUtf8}
use Rattle.unique_id.specs.declared.unique_id.Segment.{Segment}
use Rattle.unique_id.specs.Escapes.{byte_of}
use Rattle.unique_id.specs.Spelling.{spelling}

-- the characters that end a part or begin one: [ (91), ] (93), : (58) and / (47)
abbrev pub is_delimiter : ℕ → Bool
is_delimiter b = (b == 91) || ((b == 93) || ((b == 58) || (b == 47)))

-- one item of a part: a byte as it is, or % and two digits that stand for a byte
pub data Item : Type 0 where
  Plain : (byte : ℕ) → Item
  Escape : (high low byte : ℕ) → Item

-- how an item is written
abbrev pub item_text : Item → List ℕ
item_text (Plain byte) = byte ∷ []
item_text (Escape high low byte) = 37 ∷ high ∷ low ∷ []

-- the byte that an item stands for
abbrev pub item_byte : Item → ℕ
item_byte (Plain byte) = byte
item_byte (Escape high low byte) = byte

-- a plain byte is neither % nor a delimiter, and an escape's digits are hexadecimal
abbrev pub IsItem : Item → Type 0
IsItem (Plain byte) = ((byte == 37) ≡ false) × (is_delimiter byte ≡ false)
IsItem (Escape high low byte) = byte_of high low ≡ Some byte

abbrev pub part_text : List Item → List ℕ
part_text items = flat_map item_text items

abbrev pub part_bytes : List Item → List ℕ
part_bytes items = map item_byte items

-- a part: one item or more, whose bytes are text
pub record IsPart (items : List Item) : Type 0 where
  pub some_item : 0 < length items
  pub each_item : AllByRecursion IsItem items
  pub utf8 : IsUtf8 (part_bytes items)

-- a segment as it is written: two parts
pub record Written : Type 0 where
  pub kind : List Item
  pub value : List Item

abbrev pub segment_text : Written → List ℕ
segment_text w = 91 ∷ (part_text w.kind ++ (58 ∷ (part_text w.value ++ (93 ∷ []))))

-- the segment that is meant
abbrev pub meaning : Written → Segment
meaning w = record { kind = part_bytes w.kind; value = part_bytes w.value }

-- both are parts
pub record IsSegment (w : Written) : Type 0 where
  pub kind : IsPart w.kind
  pub value : IsPart w.value

-- the text is an id of these segments: how each is written, one or more with a slash (47) between two, and what they mean
pub record IsId (text : List ℕ) (segments : List Segment) : Type 0 where
  pub written : List Written
  pub some_segment : 0 < length written
  pub each_segment : AllByRecursion IsSegment written
  pub text_is : text ≡ join_with_byte 47 (map segment_text written)
  pub segments_are : segments ≡ map meaning written

-- the limits of an id: 1,024 bytes as it is written, 64 segments, 1,024 bytes in the canonical spelling
pub record IsWithinLimits (text : List ℕ) (segments : List Segment) : Type 0 where
  pub short_text : length text ≤ 1024
  pub few_segments : length segments ≤ 64
  pub short_spelling : length (spelling segments) ≤ 1024

-- The reading of a text from left to right: its segments, or the first fault.
use Rattle.std.specs.Prelude.{ℕ, ◌+◌, ◌-◌, ◌==◌, ◌||◌, not, nat_lt, cond, List, [], ◌∷◌, ◌++◌, length, take, drop, Option, Some, None, option_map, Result, Ok, Err}
use Rattle.std.specs.List.{slice_split, prefix_len}
use Rattle.std.specs.Option.{ok_or}
use Rattle.std.specs.Str.{is_utf8}
use Rattle.unique_id.specs.declared.fault.UidFault.{UidFault}
use Rattle.unique_id.specs.declared.fault.UidFault.TheVariants.{Empty, NoBracket, NoColon, BadEscape, EmptyPart, TooLong}
use Rattle.unique_id.specs.declared.part.Part.{Part}
use Rattle.unique_id.specs.declared.part.Part.TheVariants.{Kind, Value}
use Rattle.unique_id.specs.declared.unique_id.Segment.{Segment}
use Rattle.unique_id.specs.Answers.{◌>>=◌}
use Rattle.unique_id.specs.Escapes.{byte_of}
use Rattle.unique_id.specs.Grammar.{is_delimiter}
use Rattle.unique_id.specs.Spelling.{spelling}

-- the byte that ends a part: : (58) or ] (93)
abbrev pub end_of : Part → ℕ
end_of Kind = 58
end_of Value = 93

-- the fault where something else than its end comes behind a part
abbrev pub unended : Part → ℕ → UidFault
unended Kind place = NoColon place
unended Value place = NoBracket place

-- what follows the byte that a text has to begin with
abbrev pub after : ℕ → List ℕ → Option (List ℕ)
after byte [] = None
after byte (b ∷ rest) = cond (b == byte) (Some rest) None

-- the bytes that a part at this place stands for, behind those that are read already; a % without two hexadecimal digits is a fault at its place
abbrev pub unescaped : List ℕ → ℕ → List ℕ → Result (List ℕ) UidFault
unescaped done place [] = Ok done
unescaped done place (b ∷ high ∷ low ∷ rest) =
    cond (b == 37)
    (ok_or (byte_of high low) (BadEscape place) >>= λ byte. unescaped (done ++ byte ∷ []) (place + 3) rest)
    (unescaped (done ++ b ∷ []) (place + 1) (high ∷ low ∷ rest))
unescaped done place (b ∷ rest) = cond (b == 37) (Err (BadEscape place)) (unescaped (done ++ b ∷ []) (place + 1) rest)

-- the byte that the first item of a part stands for, and how many bytes the item takes; None where a % begins no escape
abbrev pub item_of : List ℕ → Option (ℕ × ℕ)
item_of [] = None
item_of (b ∷ high ∷ low ∷ rest) = cond (b == 37) (option_map (λ byte. (byte, 3)) (byte_of high low)) (Some (b, 1))
item_of (b ∷ rest) = cond (b == 37) None (Some (b, 1))

-- how many bytes stand before the next delimiter
abbrev pub part_len : List ℕ → ℕ
part_len text = prefix_len (λ b. not (is_delimiter b)) text

-- the bytes of a part that is written so at this place: one or more, and UTF-8; else a fault at its end, or at its first %
abbrev pub checked : ℕ → List ℕ → List ℕ → Result (List ℕ) UidFault
checked place written bytes =
    cond (length bytes == 0) (Err (EmptyPart (place + length written))) (
    cond (is_utf8 bytes) (Ok bytes) (Err (BadEscape (place + prefix_len (λ b. not (b == 37)) written))))

-- the part that is written so at this place, before what stands behind it: its bytes, and what follows its end
unfoldable pub part_before : Part → ℕ → List ℕ → List ℕ → Result (List ℕ × List ℕ) UidFault
part_before part place written behind =
    unescaped [] place written >>= λ bytes.
    ok_or (after (end_of part) behind) (unended part (place + length written)) >>= λ rest.
    checked place written bytes >>= λ named.
    Ok (named, rest)

-- the part that the text at this place begins with, up to the next delimiter
abbrev pub part_at : Part → ℕ → List ℕ → Result (List ℕ × List ℕ) UidFault
part_at part place text = part_before part place (take (part_len text) text) (drop (part_len text) text)

-- nothing may follow a segment but a slash or the end
abbrev pub ended : ℕ → List ℕ → Result (Unit {0}) UidFault
ended place [] = Ok tt
ended place (b ∷ rest) = Err (NoBracket place)

-- the segment that stands at this place, where this text goes to the next slash or the end
unfoldable pub segment_at : ℕ → List ℕ → Result Segment UidFault
segment_at place text =
    ok_or (after 91 text) (NoBracket place) >>= λ inside.
    part_at Kind (place + 1) inside >>= λ kind.
    part_at Value (place + (length text - length kind.1)) kind.1 >>= λ value.
    ended (place + (length text - length value.1)) value.1 >>= λ _.
    Ok (record { kind = kind.0; value = value.0 })

-- the segments of these texts between slashes, the first at this place, behind those that are read already
abbrev pub segments_at : List Segment → ℕ → List (List ℕ) → Result (List Segment) UidFault
segments_at done place [] = Ok done
segments_at done place (text ∷ rest) = segment_at place text >>= λ segment. segments_at (done ++ segment ∷ []) (place + (length text + 1)) rest

-- the limits at the end
abbrev pub limited : List Segment → Result (List Segment) UidFault
limited segments = cond (nat_lt 64 (length segments) || nat_lt 1024 (length (spelling segments))) (Err TooLong) (Ok segments)

-- the segments of a text; a slash stands only between two segments, so what lies between two slashes is read by itself
unfoldable pub id_of : List ℕ → Result (List Segment) UidFault
id_of text =
    cond (length text == 0) (Err Empty) (
    cond (nat_lt 1024 (length text)) (Err TooLong) (
    segments_at [] 0 (slice_split (λ b. b == 47) text) >>= limited))

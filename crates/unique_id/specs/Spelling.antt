-- The canonical text of a unique id, and what one more segment is refused for.
use Rattle.std.specs.Prelude.{Option, Some, None, nat_lt, ◌||◌, ◌+◌, length, ℕ, ◌==◌, codes, cond, List, [], ◌∷◌, ◌++◌}
use Rattle.std.specs.List.{flat_map}
use Rattle.unique_id.specs.declared.fault.UidFault.{UidFault}
use Rattle.unique_id.specs.declared.fault.UidFault.TheVariants.{EmptyPart, TooLong}
use Rattle.unique_id.specs.declared.unique_id.Segment.{Segment}

-- a byte of a part: % (37), + (43), [ (91), ] (93), : (58) and / (47) as a percent escape in upper-case hexadecimal, any other byte as it is
abbrev pub spelled_byte : ℕ → List ℕ
spelled_byte b =
    cond (b == 37) (codes "%25") (
    cond (b == 43) (codes "%2B") (
    cond (b == 91) (codes "%5B") (
    cond (b == 93) (codes "%5D") (
    cond (b == 58) (codes "%3A") (
    cond (b == 47) (codes "%2F") (b ∷ []))))))

-- a part, byte by byte
abbrev pub spelled_part : List ℕ → List ℕ
spelled_part bytes = flat_map spelled_byte bytes

-- a segment: [, the kind, :, the value, ]
abbrev pub spelled_segment : List ℕ → List ℕ → List ℕ
spelled_segment kind value = 91 ∷ spelled_part kind ++ 58 ∷ spelled_part value ++ 93 ∷ []

-- the canonical text: the segments with a slash between two
abbrev pub spelling : List Segment → List ℕ
spelling [] = []
spelling (s ∷ []) = spelled_segment s.kind s.value
spelling (s ∷ t ∷ rest) = spelled_segment s.kind s.value ++ 47 ∷ spelling (t ∷ rest)

-- the first reason to refuse one more segment: an empty kind, an empty value, then a 65th segment or more than 1,024 bytes
abbrev pub refusal : List Segment → List ℕ → List ℕ → Option UidFault
refusal segments kind value =
    cond (length kind == 0) (Some (EmptyPart 0)) (
    cond (length value == 0) (Some (EmptyPart 1)) (
    cond (nat_lt 64 (length segments + 1) || nat_lt 1024 (length (spelling (segments ++ record { kind = kind; value = value } ∷ [])))) (Some TooLong) None))

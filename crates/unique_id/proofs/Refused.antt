-- When one more segment is refused.
use Rattle.std.proofs.Common.{◌≡◌, ℕ, ◌<◌, ◌≤◌, ◌+◌, List, [], ◌∷◌, ◌++◌, length, Some, None, refl, ap, arith, length-append}
use Rattle.std.proofs.lemmas.Bool.Decides.{nat_tests}
use Rattle.unique_id.specs.declared.fault.UidFault.TheVariants.{TooLong}
use Rattle.unique_id.specs.declared.unique_id.Segment.{Segment}
use Rattle.unique_id.specs.Spelling.{spelling, spelled_byte, spelled_part, spelled_segment, refusal}
use Rattle.unique_id.proofs.Parts.{byte_alone}
use Rattle.unique_id.proofs.Spellings.{spelling_more}

pub too_many : (xs : List Segment) (kind value : List ℕ) → 0 < length kind → 0 < length value → 64 ≤ length xs → refusal xs kind value ≡ Some TooLong
too_many xs kind value k v h = grind (arith, nat_tests)

pub too_long : (xs : List Segment) (kind value : List ℕ) → 0 < length kind → 0 < length value → 1024 < length (spelling (xs ++ record { kind = kind; value = value } ∷ [])) → refusal xs kind value ≡ Some TooLong
too_long xs kind value k v h = grind (arith, nat_tests)

pub fits : (xs : List Segment) (kind value : List ℕ) → 0 < length kind → 0 < length value → length xs < 64 → length (spelling (xs ++ record { kind = kind; value = value } ∷ [])) ≤ 1024 → refusal xs kind value ≡ None
fits xs kind value k v few short = grind (arith, nat_tests)

-- no byte is written in less than one
byte_written : (b : ℕ) → 1 ≤ length (spelled_byte b)
byte_written b = grind (arith, nat_tests)

part_written : (part : List ℕ) → length part ≤ length (spelled_part part)
part_written [] = omega arith
part_written (b ∷ part) = omega (arith, byte_written b, part_written part, length-append (spelled_byte b) (spelled_part part))

segment_written : (kind value : List ℕ) → length (spelled_segment kind value) ≡ length (spelled_part kind) + length (spelled_part value) + 3
segment_written kind value = omega (arith, length-append (spelled_part kind ++ 58 ∷ spelled_part value) (93 ∷ []), length-append (spelled_part kind) (58 ∷ spelled_part value))

-- a part that is written in as many bytes as it has is written as it is
part_plain : (part : List ℕ) → length (spelled_part part) ≡ length part → spelled_part part ≡ part
part_plain [] same = refl
part_plain (b ∷ part) same =
    let both = length-append (spelled_byte b) (spelled_part part) in
    let one : length (spelled_byte b) ≡ 1 = omega (arith, same, both, byte_written b, part_written part) in
    rw (byte_alone b one) (ap (λ l. b ∷ l) (part_plain part (omega (arith, same, both, one))))

-- a segment is written in no fewer bytes than its parts have and three more
pub segment_within : (kind value : List ℕ) → length kind + length value + 3 ≤ length (spelled_segment kind value)
segment_within kind value = omega (arith, segment_written kind value, part_written kind, part_written value)

-- a segment that is written in as many bytes as its parts have and three more needs no escape
pub segment_plain : (kind value : List ℕ) → length (spelled_segment kind value) ≡ length kind + length value + 3 → (spelled_part kind ≡ kind) × (spelled_part value ≡ value)
segment_plain kind value same = (
  part_plain kind (omega (arith, same, segment_written kind value, part_written kind, part_written value)),
  part_plain value (omega (arith, same, segment_written kind value, part_written kind, part_written value)),
)

-- the length of a longer spelling: `slash` is 1 where a segment stands before
pub length_more : (xs : List Segment) (slash : ℕ) (s : Segment) → (length xs ≡ 0 → slash ≡ 0) → (0 < length xs → slash ≡ 1) → length (spelling (xs ++ s ∷ [])) ≡ length (spelling xs) + slash + length (spelled_segment s.kind s.value)
length_more [] slash s none some = omega (arith, none refl)
length_more (x ∷ xs) slash s none some =
    omega (arith, some (omega arith), ap length (spelling_more (x ∷ xs) s (omega arith)), length-append (spelling (x ∷ xs)) (47 ∷ spelled_segment s.kind s.value))

-- no part is longer than the spelling that it stands in
pub parts_within : (xs : List Segment) (s : Segment) → (length s.kind ≤ length (spelling (xs ++ s ∷ []))) × (length s.value ≤ length (spelling (xs ++ s ∷ [])))
parts_within [] s = (omega (arith, part_written s.kind, segment_written s.kind s.value), omega (arith, part_written s.value, segment_written s.kind s.value))
parts_within (x ∷ xs) s =
    let more = length_more (x ∷ xs) 1 s (λ h. absurd (omega (arith, h))) (λ _. refl) in
    (omega (arith, more, part_written s.kind, segment_written s.kind s.value), omega (arith, more, part_written s.value, segment_written s.kind s.value))

-- what holds where nothing refuses one more segment
pub record IsAccepted (xs : List Segment) (kind value : List ℕ) : Type 0 where
  pub some_kind : 0 < length kind
  pub some_value : 0 < length value
  pub few : length xs < 64
  pub short : length (spelling (xs ++ record { kind = kind; value = value } ∷ [])) ≤ 1024

pub accepted : (xs : List Segment) (kind value : List ℕ) → refusal xs kind value ≡ None → IsAccepted xs kind value
accepted xs kind value h = record {
  some_kind = grind (arith, nat_tests);
  some_value = grind (arith, nat_tests);
  few = grind (arith, nat_tests);
  short = grind (arith, nat_tests);
}

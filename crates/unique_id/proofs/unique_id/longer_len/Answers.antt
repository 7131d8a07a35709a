-- Each test of the code is a case of the definition.
use Rattle.std.proofs.Common.{◌≡◌, inl, inr, ◌<◌, length, ap, ◌∙◌, arith}
use Rattle.std.proofs.lemmas.Bool.Decides.{nat_tests}
use Rattle.unique_id.specs.declared.unique_id.Segment.{Segment}
use Rattle.unique_id.specs.Spelling.{spelled_segment}
use Rattle.unique_id.proofs.Refused.{too_many, too_long, fits, length_more, parts_within}
use Rattle.unique_id.proofs.unique_id.longer_len.Goals as goal

pub returns-then-segments-ge-MOST_SEGMENTS-clause-refused : goal.returns-then-segments-ge-MOST_SEGMENTS-clause-refused
returns-then-segments-ge-MOST_SEGMENTS-clause-refused c =
    let xs = c.args.segments.now in
    let new : Segment = record { kind = c.args.kind.now; value = c.args.value.now } in
    let kind : 0 < length new.kind = grind (arith, nat_tests) in
    let value : 0 < length new.value = grind (arith, nat_tests) in
    let within = parts_within xs new in
    elim c.then-segments-ge-MOST_SEGMENTS.either [
      | inl many ↦ too_many xs new.kind new.value kind value many
      | inr long ↦ too_long xs new.kind new.value kind value (omega (arith, within.0, within.1, long))
    ]

pub returns-then-len-gt-LONGEST_TEXT-clause-refused : goal.returns-then-len-gt-LONGEST_TEXT-clause-refused
returns-then-len-gt-LONGEST_TEXT-clause-refused c =
    let xs = c.args.segments.now in
    let new : Segment = record { kind = c.args.kind.now; value = c.args.value.now } in
    let kind : 0 < length c.args.kind.now = grind (arith, nat_tests) in
    let value : 0 < length c.args.value.now = grind (arith, nat_tests) in
    let none : length xs ≡ 0 → c.from-slash.result ≡ 0 = λ h. grind (arith, nat_tests) in
    let some : 0 < length xs → c.from-slash.result ≡ 1 = λ h. grind (arith, nat_tests) in
    let more = length_more xs c.from-slash.result new none some in
    let written : length (spelled_segment c.as_bytes.result.now c.as_bytes-2.result.now) ≡ length (spelled_segment new.kind new.value) =
    ap (λ k. length (spelled_segment k c.as_bytes-2.result.now)) c.as_bytes.ensures.value ∙ ap (λ v. length (spelled_segment new.kind v)) c.as_bytes-2.ensures.value in
    too_long xs new.kind new.value kind value (omega (arith, more, ap length c.requires.spelled, c.segment_len.ensures.spelled, written))

pub returns-clause-accepted : goal.returns-clause-accepted
returns-clause-accepted c =
    let xs = c.args.segments.now in
    let new : Segment = record { kind = c.args.kind.now; value = c.args.value.now } in
    let kind : 0 < length c.args.kind.now = grind (arith, nat_tests) in
    let value : 0 < length c.args.value.now = grind (arith, nat_tests) in
    let none : length xs ≡ 0 → c.from-slash.result ≡ 0 = λ h. grind (arith, nat_tests) in
    let some : 0 < length xs → c.from-slash.result ≡ 1 = λ h. grind (arith, nat_tests) in
    let more = length_more xs c.from-slash.result new none some in
    let written : length (spelled_segment c.as_bytes.result.now c.as_bytes-2.result.now) ≡ length (spelled_segment new.kind new.value) =
    ap (λ k. length (spelled_segment k c.as_bytes-2.result.now)) c.as_bytes.ensures.value ∙ ap (λ v. length (spelled_segment new.kind v)) c.as_bytes-2.ensures.value in
    fits xs new.kind new.value kind value (omega arith) (omega (arith, more, ap length c.requires.spelled, c.segment_len.ensures.spelled, written))

pub returns-clause-len : goal.returns-clause-len
returns-clause-len c =
    let xs = c.args.segments.now in
    let new : Segment = record { kind = c.args.kind.now; value = c.args.value.now } in
    let none : length xs ≡ 0 → c.from-slash.result ≡ 0 = λ h. grind (arith, nat_tests) in
    let some : 0 < length xs → c.from-slash.result ≡ 1 = λ h. grind (arith, nat_tests) in
    let more = length_more xs c.from-slash.result new none some in
    let written : length (spelled_segment c.as_bytes.result.now c.as_bytes-2.result.now) ≡ length (spelled_segment new.kind new.value) =
    ap (λ k. length (spelled_segment k c.as_bytes-2.result.now)) c.as_bytes.ensures.value ∙ ap (λ v. length (spelled_segment new.kind v)) c.as_bytes-2.ensures.value in
    omega (arith, more, ap length c.requires.spelled, c.segment_len.ensures.spelled, written)

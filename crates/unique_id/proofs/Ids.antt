-- When a text is an id, and when it is refused.
use Rattle.std.proofs.Common.{◌≡◌, inl, inr, ℕ, ◌<◌, ◌≤◌, ◌==◌, ◌||◌, nat_lt, cond, List, [], ◌∷◌, length, map, Result, Ok, Err, ap, sym, ◌∙◌, subst, arith}
use Rattle.std.proofs.lemmas.Bool.Decides.{nat_tests}
use Rattle.std.proofs.lemmas.List.{length-map}
use Rattle.std.proofs.lemmas.List.Elements.{All-nil, All-cons}
use Rattle.std.proofs.lemmas.List.Splits.{join_with_byte-slice_split}
use Rattle.std.specs.List.{All, AllByRecursion, slice_split, join_with_byte}
use Rattle.unique_id.specs.declared.fault.UidFault.{UidFault}
use Rattle.unique_id.specs.declared.fault.UidFault.TheVariants.{Empty, TooLong}
use Rattle.unique_id.specs.declared.unique_id.Segment.{Segment}
use Rattle.unique_id.specs.Grammar.{Item, item_byte, part_bytes, IsPart, Written, IsSegment, segment_text, meaning, IsId, IsWithinLimits}
use Rattle.unique_id.specs.Answers.{◌>>=◌}
use Rattle.unique_id.specs.Reading.{segments_at, limited, id_of}
use Rattle.unique_id.specs.Segments.{IsWhole, IsText}
use Rattle.unique_id.specs.Spelling.{spelling}
use Rattle.unique_id.proofs.Again.{segments_again, split_again}
use Rattle.unique_id.proofs.Pieces.{some_piece}
use Rattle.unique_id.proofs.Steps.{went, err_ok, same_ok, both}
use Rattle.unique_id.proofs.Takes.{segments_read}

-- the texts between the slashes of a text
abbrev pub pieces_of : List ℕ → List (List ℕ)
pieces_of text = slice_split (λ b. b == 47) text

pub empty_refused : (text : List ℕ) → length text ≡ 0 → id_of text ≡ Err Empty
unfolding id_of
empty_refused text h = grind (arith, nat_tests)

pub long_refused : (text : List ℕ) → 1024 < length text → id_of text ≡ Err TooLong
unfolding id_of
long_refused text h = grind (arith, nat_tests)

-- between the two
pub read_on : (text : List ℕ) → 0 < length text → length text ≤ 1024 → id_of text ≡ segments_at [] 0 (pieces_of text) >>= limited
unfolding id_of
read_on text some short = grind (arith, nat_tests)

pub many_refused : (segments : List Segment) → 64 < length segments → limited segments ≡ Err TooLong
many_refused segments h = grind (arith, nat_tests)

pub wide_refused : (segments : List Segment) → 1024 < length (spelling segments) → limited segments ≡ Err TooLong
wide_refused segments h = grind (arith, nat_tests)

pub within_limits : (segments : List Segment) → length segments ≤ 64 → length (spelling segments) ≤ 1024 → limited segments ≡ Ok segments
within_limits segments few short = grind (arith, nat_tests)

-- what is within the limits
limits : (segments found : List Segment) → limited segments ≡ Ok found → (segments ≡ found) × (length segments ≤ 64) × (length (spelling segments) ≤ 1024)
limits segments found h =
    elim (went (nat_lt 64 (length segments) || nat_lt 1024 (length (spelling segments))) _ _ (Ok found) h) [
      | inl bad ↦ err_ok TooLong found bad.1
      | inr good ↦ (same_ok segments found good.1, grind (arith, nat_tests), grind (arith, nat_tests))
    ]

-- a part has a byte or more
part_some : (items : List Item) → IsPart items → 0 < length (part_bytes items)
part_some items is = omega (arith, is.some_item, length-map items item_byte)

written_whole : (ws : List Written) → AllByRecursion IsSegment ws → All IsWhole (map meaning ws)
written_whole [] all = All-nil IsWhole
written_whole (w ∷ ws) (is, all) = All-cons IsWhole (meaning w) (map meaning ws) (part_some w.kind is.kind, part_some w.value is.value) (written_whole ws all)

written_texts : (ws : List Written) → AllByRecursion IsSegment ws → All IsText (map meaning ws)
written_texts [] all = All-nil IsText
written_texts (w ∷ ws) (is, all) = All-cons IsText (meaning w) (map meaning ws) (record { kind = is.kind.utf8; value = is.value.utf8 }) (written_texts ws all)

-- segments that were read from a text are one or more, and whole
pub read_whole : (text : List ℕ) (segments : List Segment) → segments_at [] 0 (pieces_of text) ≡ Ok segments → (0 < length segments) × All IsWhole segments × All IsText segments
read_whole text segments h =
    let are = segments_read (pieces_of text) [] 0 segments h in
    let some : 0 < length segments =
    omega (arith, some_piece text, ap length are.pieces_are, ap length are.segments_are, length-map are.written segment_text, length-map are.written meaning) in
    (some, subst (All IsWhole) (sym are.segments_are) (written_whole are.written are.right), subst (All IsText) (sym are.segments_are) (written_texts are.written are.right))

-- a text that was read is an id within the limits
pub id_taken : (text : List ℕ) (segments : List Segment) → id_of text ≡ Ok segments → IsId text segments × IsWithinLimits text segments
unfolding id_of
id_taken text segments h =
    let all : Result (List Segment) UidFault = segments_at [] 0 (pieces_of text) >>= limited in
    elim (went (length text == 0) (Err Empty) (cond (nat_lt 1024 (length text)) (Err TooLong) all) (Ok segments) h) [
      | inl none ↦ err_ok Empty segments none.1
      | inr some ↦
          elim (went (nat_lt 1024 (length text)) (Err TooLong) all (Ok segments) some.1) [
            | inl long ↦ err_ok TooLong segments long.1
            | inr short ↦
                (let steps = both (segments_at [] 0 (pieces_of text)) limited segments short.1 in
                let end = limits steps.0 segments steps.2 in
                let are = segments_read (pieces_of text) [] 0 steps.0 steps.1 in (
                  record {
                    written = are.written;
                    some_segment = omega (arith, some_piece text, ap length are.pieces_are, length-map are.written segment_text);
                    each_segment = are.right;
                    text_is = sym (join_with_byte-slice_split 47 text) ∙ ap (join_with_byte 47) are.pieces_are;
                    segments_are = sym end.0 ∙ are.segments_are;
                  },
                  record {
                    short_text = grind (arith, nat_tests, short.0);
                    few_segments = omega (arith, end.1, ap length end.0);
                    short_spelling = omega (arith, end.2, ap (λ l. length (spelling l)) end.0);
                  },
                ))
          ]
    ]

joined_some : (w : Written) (ws : List Written) → 0 < length (join_with_byte 47 (map segment_text (w ∷ ws)))
joined_some w [] = omega arith
joined_some w (next ∷ ws) = omega arith

written_read : (ws : List Written) → 0 < length ws → AllByRecursion IsSegment ws → (text : List ℕ) (segments : List Segment)
    → text ≡ join_with_byte 47 (map segment_text ws) → segments ≡ map meaning ws → IsWithinLimits text segments → id_of text ≡ Ok segments
written_read [] some all text segments text_is segments_are limits = absurd (omega arith)
written_read (w ∷ ws) some all text segments text_is segments_are limits =
    let read : segments_at [] 0 (pieces_of text) ≡ Ok segments =
    ap (λ t. segments_at [] 0 (pieces_of t)) text_is ∙ ap (segments_at [] 0) (split_again w ws all) ∙ segments_again (w ∷ ws) all [] 0 ∙ ap Ok (sym segments_are) in
    let not_empty : 0 < length text = omega (arith, joined_some w ws, ap length text_is) in
    read_on text not_empty limits.short_text ∙ ap (λ r. r >>= limited) read ∙ within_limits segments limits.few_segments limits.short_spelling

-- an id within the limits is read
pub id_again : (text : List ℕ) (segments : List Segment) → IsId text segments → IsWithinLimits text segments → id_of text ≡ Ok segments
id_again text segments is limits = written_read is.written is.some_segment is.each_segment text segments is.text_is is.segments_are limits

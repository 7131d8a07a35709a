-- The text of an id ends where its first ] stands that no slash follows, so it is found in front of a space or an end.
use Rattle.std.proofs.Common.{◌≡◌, ℕ, ◌+◌, ◌<◌, ◌==◌, ◌&&◌, not, true, false, cond, List, [], ◌∷◌, ◌++◌, length, Ok, take, drop, refl, sym, ap, ap₂, ◌∙◌, arith, append_assoc, append-nil}
use Rattle.std.proofs.lemmas.Bool.{ne_eqb, and_parts}
use Rattle.std.proofs.lemmas.List.{length-append, take_at, drop_at}
use Rattle.unique_id.specs.Reading.{id_of}
use Rattle.unique_id.specs.Spelling.{spelling, spelled_byte, spelled_part, spelled_segment}
use Rattle.unique_id.specs.declared.unique_id.Segment.{Segment}
use Rattle.unique_id.proofs.Canonical.{spelling_is_id}
use Rattle.unique_id.proofs.Ids.{id_again}
use Rattle.unique_id.proofs.ReadBack.{by_byte, open_segment}
use Rattle.saved_runs.specs.FeedLines.{begins_with_slash, id_len, node_ended, node_line}
use Rattle.saved_runs.specs.Histories.{IsUid}
use Rattle.saved_runs.proofs.Lacking.{lacks, lacks_both, lacks_more, is_other}

-- what is passed
passed : (xs rest : List ℕ) → lacks 93 xs ≡ true → id_len (xs ++ rest) ≡ length xs + id_len rest
passed [] rest h = omega arith
passed (x ∷ xs) rest h =
    let p = and_parts (not (x == 93)) (lacks 93 xs) h in
    let e : (x == 93) ≡ false = is_other (x == 93) p.0 in
    ap (λ t. cond (t && not (begins_with_slash (xs ++ rest))) 1 (1 + id_len (xs ++ rest))) e ∙ omega (arith, passed xs rest p.1)

bytes_lack : (b : ℕ) → lacks 93 (spelled_byte b) ≡ true
bytes_lack = by_byte (λ b bytes. lacks 93 bytes ≡ true) refl refl refl refl refl refl (λ b p. lacks_more 93 b [] (ne_eqb b 93 p.close_bracket) refl)

part_lacks : (bytes : List ℕ) → lacks 93 (spelled_part bytes) ≡ true
part_lacks [] = refl
part_lacks (b ∷ bytes) = lacks_both 93 (spelled_byte b) (spelled_part bytes) (bytes_lack b) (part_lacks bytes)

-- a segment up to its ]
pub segment_passed : (s : Segment) (rest : List ℕ) → id_len (spelled_segment s.kind s.value ++ rest) ≡ length (spelled_part s.kind) + length (spelled_part s.value) + 2 + id_len (93 ∷ rest)
segment_passed s rest =
    let value = passed (spelled_part s.value) (93 ∷ rest) (part_lacks s.value) in
    let kind = passed (spelled_part s.kind) (58 ∷ (spelled_part s.value ++ 93 ∷ rest)) (part_lacks s.kind) in
    ap id_len (open_segment s.kind s.value rest) ∙ omega (arith, value, kind)

segment_len : (s : Segment) (rest : List ℕ) → length (spelled_segment s.kind s.value ++ rest) ≡ length (spelled_part s.kind) + length (spelled_part s.value) + 3 + length rest
segment_len s rest =
    let value = length-append (spelled_part s.value) (93 ∷ rest) in
    let kind = length-append (spelled_part s.kind) (58 ∷ (spelled_part s.value ++ 93 ∷ rest)) in
    ap length (open_segment s.kind s.value rest) ∙ omega (arith, value, kind)

-- what may stand behind an id: nothing, or a space and more
abbrev pub IsBehind : List ℕ → Type 0
IsBehind [] = Unit {0}
IsBehind (b ∷ rest) = b ≡ 32

last_bracket : (e : List ℕ) → IsBehind e → id_len (93 ∷ e) ≡ 1
last_bracket [] h = refl
last_bracket (b ∷ e) h = ap (λ (x : ℕ). id_len (93 ∷ x ∷ e)) h

pub id_end : (s : Segment) (more : List Segment) (e : List ℕ) → IsBehind e → id_len (spelling (s ∷ more) ++ e) ≡ length (spelling (s ∷ more))
id_end s [] e h =
    let len = segment_len s [] in
    let whole : length (spelled_segment s.kind s.value) ≡ length (spelled_part s.kind) + length (spelled_part s.value) + 3 = ap length (sym (append-nil (spelled_segment s.kind s.value))) ∙ omega (arith, len) in
    segment_passed s e ∙ omega (arith, last_bracket e h, whole)
id_end s (t ∷ more) e h =
    let tail = spelling (t ∷ more) in
    let len = segment_len s (47 ∷ tail) in
    let first = segment_passed s (47 ∷ (tail ++ e)) in
    ap id_len (append_assoc (spelled_segment s.kind s.value) (47 ∷ tail) e) ∙ first ∙ omega (arith, len, id_end t more e h)

-- an id is read from its text
pub id_read : (id : List Segment) → IsUid id → id_of (spelling id) ≡ Ok id
id_read id h = id_again (spelling id) id (spelling_is_id id h.some h.whole h.texts) (record { short_text = h.short; few_segments = h.few; short_spelling = h.short })

-- a node's line is cut where its id ends
pub node_cut : (word : List ℕ) (id : List Segment) (e : List ℕ) → 0 < length id → IsBehind e → node_line word (spelling id ++ e) ≡ node_ended word (spelling id) e
node_cut word [] e some h = absurd (omega (arith, some))
node_cut word (s ∷ more) e some h =
    let text = spelling (s ∷ more) in
    let end = id_end s more e h in
    ap (λ n. node_ended word (take n (text ++ e)) (drop n (text ++ e))) end
    ∙ ap₂ (node_ended word) (take_at text e (length text) refl) (drop_at text e (length text) refl)

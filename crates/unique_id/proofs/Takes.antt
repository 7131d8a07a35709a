-- What is read is written in the format.
use Rattle.std.proofs.Common.{◌≡◌, inl, inr, ℕ, suc, ◌+◌, ◌-◌, ◌<◌, ◌==◌, not, Bool, true, false, cond, List, [], ◌∷◌, ◌++◌, length, take, drop, map, Some, None, Result, Ok, Err, refl, ap, sym, ◌∙◌, subst, arith, append_assoc, append-nil}
use Rattle.std.proofs.lemmas.Bool.{eqb-true}
use Rattle.std.proofs.lemmas.Bool.Decides.{nat_tests}
use Rattle.std.proofs.lemmas.List.{length-map, take-append-drop}
use Rattle.std.proofs.lemmas.Option.{none-some, same_Some}
use Rattle.std.proofs.lemmas.Str.{IsUtf8-from_is_utf8}
use Rattle.std.specs.List.{AllByRecursion, prefix_len}
use Rattle.std.specs.Option.{ok_or}
use Rattle.std.specs.Str.{IsUtf8, is_utf8}
use Rattle.unique_id.specs.declared.fault.UidFault.{UidFault}
use Rattle.unique_id.specs.declared.fault.UidFault.TheVariants.{BadEscape, EmptyPart, NoBracket}
use Rattle.unique_id.specs.declared.part.Part.{Part}
use Rattle.unique_id.specs.declared.part.Part.TheVariants as parts
use Rattle.unique_id.specs.declared.unique_id.Segment.{Segment}
use Rattle.unique_id.specs.Escapes.{byte_of}
use Rattle.unique_id.specs.Grammar.{Item, Plain, Escape, IsItem, item_byte, part_text, part_bytes, IsPart, Written, IsSegment, segment_text, meaning, is_delimiter}
use Rattle.unique_id.specs.Answers.{◌>>=◌}
use Rattle.unique_id.specs.Reading.{unescaped, part_len, end_of, unended, after, checked, part_before, part_at, ended, segment_at, segments_at}
use Rattle.unique_id.proofs.Again.{IsInside}
use Rattle.unique_id.proofs.Steps.{went, err_ok, same_ok, both, three, some_ok}

-- items that are written so and stand for these bytes, behind others
pub record AreItems (text done bytes : List ℕ) : Type 0 where
  pub items : List Item
  pub each_item : AllByRecursion IsItem items
  pub text_is : text ≡ part_text items
  pub bytes_are : bytes ≡ done ++ part_bytes items

plain_item : (b : ℕ) (text done bytes : List ℕ) → (b == 37) ≡ false → IsInside b → AreItems text (done ++ b ∷ []) bytes → AreItems (b ∷ text) done bytes
plain_item b text done bytes plain inside more = record {
  items = Plain b ∷ more.items;
  each_item = ((plain, inside), more.each_item);
  text_is = ap (λ l. b ∷ l) more.text_is;
  bytes_are = more.bytes_are ∙ append_assoc done (b ∷ []) (part_bytes more.items);
}

escape_item : (b high low byte : ℕ) (text done bytes : List ℕ) → (b == 37) ≡ true → byte_of high low ≡ Some byte → AreItems text (done ++ byte ∷ []) bytes → AreItems (b ∷ high ∷ low ∷ text) done bytes
escape_item b high low byte text done bytes percent digits more = record {
  items = Escape high low byte ∷ more.items;
  each_item = (digits, more.each_item);
  text_is = ap (λ n. n ∷ high ∷ low ∷ text) (eqb-true b 37 percent) ∙ ap (λ l. 37 ∷ high ∷ low ∷ l) more.text_is;
  bytes_are = more.bytes_are ∙ append_assoc done (byte ∷ []) (part_bytes more.items);
}

pub items_read : (text done : List ℕ) (place : ℕ) (bytes : List ℕ) → AllByRecursion IsInside text → unescaped done place text ≡ Ok bytes → AreItems text done bytes
items_read [] done place bytes inside h = record { items = []; each_item = tt; text_is = refl; bytes_are = sym (same_ok done bytes h) ∙ sym (append-nil done) }
items_read (b ∷ []) done place bytes (inside, all) h =
    elim (went (b == 37) _ _ (Ok bytes) h) [
      | inl bad ↦ err_ok (BadEscape place) bytes bad.1
      | inr plain ↦ plain_item b [] done bytes plain.0 inside (items_read [] (done ++ b ∷ []) (place + 1) bytes all plain.1)
    ]
items_read (b ∷ c ∷ []) done place bytes (inside, all) h =
    elim (went (b == 37) _ _ (Ok bytes) h) [
      | inl bad ↦ err_ok (BadEscape place) bytes bad.1
      | inr plain ↦ plain_item b (c ∷ []) done bytes plain.0 inside (items_read (c ∷ []) (done ++ b ∷ []) (place + 1) bytes all plain.1)
    ]
items_read (b ∷ c ∷ d ∷ text) done place bytes (inside, (inside_c, (inside_d, all))) h =
    elim (went (b == 37) _ _ (Ok bytes) h) [
      | inl escape ↦
          (let step = both (ok_or (byte_of c d) (BadEscape place)) (λ byte. unescaped (done ++ byte ∷ []) (place + 3) text) bytes escape.1 in
          escape_item b c d step.0 text done bytes escape.0 (some_ok (byte_of c d) (BadEscape place) step.0 step.1) (items_read text (done ++ step.0 ∷ []) (place + 3) bytes all step.2))
      | inr plain ↦ plain_item b (c ∷ d ∷ text) done bytes plain.0 inside (items_read (c ∷ d ∷ text) (done ++ b ∷ []) (place + 1) bytes (inside_c, (inside_d, all)) plain.1)
    ]

-- what stands before the next delimiter
len_step : (b : ℕ) (text : List ℕ) → is_delimiter b ≡ false → part_len (b ∷ text) ≡ suc (part_len text)
len_step b text e = rw e (omega arith)

front_step : (b : ℕ) (text : List ℕ) (t : Bool) → is_delimiter b ≡ t → AllByRecursion IsInside (take (part_len text) text) → AllByRecursion IsInside (take (part_len (b ∷ text)) (b ∷ text))
front_step b text true e all = rw e tt
front_step b text false e all = subst (λ (n : ℕ). AllByRecursion IsInside (take n (b ∷ text))) (sym (len_step b text e)) (e, all)

pub front_inside : (text : List ℕ) → AllByRecursion IsInside (take (part_len text) text)
front_inside [] = tt
front_inside (b ∷ text) = front_step b text (is_delimiter b) refl (front_inside text)

pub after_found : (byte : ℕ) (text rest : List ℕ) → after byte text ≡ Some rest → text ≡ byte ∷ rest
after_found byte [] rest h = absurd (none-some rest h)
after_found byte (b ∷ text) rest h =
    elim (went (b == byte) (Some text) None (Some rest) h) [
      | inl same ↦ ap (λ n. n ∷ text) (eqb-true b byte same.0) ∙ ap (λ l. byte ∷ l) (same_Some text rest same.1)
      | inr other ↦ absurd (none-some rest other.1)
    ]

record IsFine (bytes named : List ℕ) : Type 0 where
  some : 0 < length bytes
  utf8 : IsUtf8 bytes
  same : named ≡ bytes

fine : (place : ℕ) (written bytes named : List ℕ) → checked place written bytes ≡ Ok named → IsFine bytes named
fine place written bytes named h =
    let read : Result (List ℕ) UidFault = cond (is_utf8 bytes) (Ok bytes) (Err (BadEscape (place + prefix_len (λ b. not (b == 37)) written))) in
    elim (went (length bytes == 0) (Err (EmptyPart (place + length written))) read (Ok named) h) [
      | inl none ↦ err_ok (EmptyPart (place + length written)) named none.1
      | inr some ↦
          elim (went (is_utf8 bytes) (Ok bytes) (Err (BadEscape (place + prefix_len (λ b. not (b == 37)) written))) (Ok named) some.1) [
            | inl good ↦ (record { some = grind (arith, nat_tests, some.0); utf8 = IsUtf8-from_is_utf8 bytes good.0; same = sym (same_ok bytes named good.1) })
            | inr bad ↦ err_ok (BadEscape (place + prefix_len (λ b. not (b == 37)) written)) named bad.1
          ]
    ]

-- a part at the front of a text
pub record IsTaken (part : Part) (text named rest : List ℕ) : Type 0 where
  pub items : List Item
  pub right : IsPart items
  pub text_is : text ≡ part_text items ++ end_of part ∷ rest
  pub named_is : named ≡ part_bytes items

-- the three steps of a part
record IsBefore (part : Part) (place : ℕ) (written behind named rest : List ℕ) : Type 0 where
  bytes : List ℕ
  read : unescaped [] place written ≡ Ok bytes
  follows : after (end_of part) behind ≡ Some rest
  checks : checked place written bytes ≡ Ok named

before_read : (part : Part) (place : ℕ) (written behind named rest : List ℕ) → part_before part place written behind ≡ Ok (named, rest) → IsBefore part place written behind named rest
unfolding part_before
before_read part place written behind named rest h =
    let follows : Result (List ℕ) UidFault = ok_or (after (end_of part) behind) (unended part (place + length written)) in
    let steps = three (unescaped [] place written) follows (λ bytes. checked place written bytes) (named, rest) h in
    record {
      bytes = steps.0;
      read = steps.1;
      follows = some_ok (after (end_of part) behind) (unended part (place + length written)) rest steps.2;
      checks = steps.3;
    }

pub part_read : (part : Part) (place : ℕ) (text named rest : List ℕ) → part_at part place text ≡ Ok (named, rest) → IsTaken part text named rest
part_read part place text named rest h =
    let written = take (part_len text) text in
    let behind = drop (part_len text) text in
    let steps = before_read part place written behind named rest h in
    let read = items_read written [] place steps.bytes (front_inside text) steps.read in
    let good = fine place written steps.bytes named steps.checks in
    record {
      items = read.items;
      right = record {
        some_item = omega (arith, good.some, ap length read.bytes_are, length-map read.items item_byte);
        each_item = read.each_item;
        utf8 = subst IsUtf8 read.bytes_are good.utf8;
      };
      text_is = sym (take-append-drop (part_len text) text) ∙ ap (λ l. l ++ behind) read.text_is ∙ ap (λ l. part_text read.items ++ l) (after_found (end_of part) behind rest steps.follows);
      named_is = good.same ∙ read.bytes_are;
    }

nothing_left : (place : ℕ) (text : List ℕ) (x : Unit {0}) → ended place text ≡ Ok x → text ≡ []
nothing_left place [] x h = refl
nothing_left place (b ∷ text) x h = err_ok (NoBracket place) x h

-- a segment that is written so
pub record IsSegmentOf (text : List ℕ) (s : Segment) : Type 0 where
  pub written : Written
  pub right : IsSegment written
  pub text_is : text ≡ segment_text written
  pub means : s ≡ meaning written

segment_of : (text inside kind behind value rest : List ℕ) → text ≡ 91 ∷ inside → IsTaken parts.Kind inside kind behind → IsTaken parts.Value behind value rest → rest ≡ []
    → IsSegmentOf text (record { kind = kind; value = value })
segment_of text inside kind behind value rest front first second back = record {
  written = record { kind = first.items; value = second.items };
  right = record { kind = first.right; value = second.right };
  text_is =
      front ∙ ap (λ l. 91 ∷ l) first.text_is ∙ ap (λ l. 91 ∷ (part_text first.items ++ 58 ∷ l)) second.text_is
      ∙ ap (λ l. 91 ∷ (part_text first.items ++ 58 ∷ (part_text second.items ++ 93 ∷ l))) back;
  means = ap (λ k. record { kind = k; value = value }) first.named_is ∙ ap (λ v. record { kind = part_bytes first.items; value = v }) second.named_is;
}

pub segment_read : (place : ℕ) (text : List ℕ) (s : Segment) → segment_at place text ≡ Ok s → IsSegmentOf text s
unfolding segment_at
segment_read place text s h =
    let value_of : List ℕ × List ℕ → Result (List ℕ × List ℕ) UidFault = λ kind. part_at parts.Value (place + (length text - length kind.1)) kind.1 in
    let end_is : List ℕ × List ℕ → Result (Unit {0}) UidFault = λ value. ended (place + (length text - length value.1)) value.1 in
    let made : List ℕ × List ℕ → List ℕ × List ℕ → Segment = λ kind value. record { kind = kind.0; value = value.0 } in
    let one = both (ok_or (after 91 text) (NoBracket place)) (λ inside. part_at parts.Kind (place + 1) inside >>= λ kind. value_of kind >>= λ value. end_is value >>= λ _. Ok (made kind value)) s h in
    let two = both (part_at parts.Kind (place + 1) one.0) (λ kind. value_of kind >>= λ value. end_is value >>= λ _. Ok (made kind value)) s one.2 in
    let three = both (value_of two.0) (λ value. end_is value >>= λ _. Ok (made two.0 value)) s two.2 in
    let four = both (end_is three.0) (λ _. Ok (made two.0 three.0)) s three.2 in
    let kind = part_read parts.Kind (place + 1) one.0 two.0.0 two.0.1 two.1 in
    let value = part_read parts.Value (place + (length text - length two.0.1)) two.0.1 three.0.0 three.0.1 three.1 in
    let front = after_found 91 text one.0 (some_ok (after 91 text) (NoBracket place) one.0 one.1) in
    let back = nothing_left (place + (length text - length three.0.1)) three.0.1 four.0 four.1 in
    subst (IsSegmentOf text) {x = made two.0 three.0} (same_ok (made two.0 three.0) s four.2) (segment_of text one.0 two.0.0 two.0.1 three.0.0 three.0.1 front kind value back)

-- segments that are written so, behind others
pub record AreSegmentsOf (pieces : List (List ℕ)) (done segments : List Segment) : Type 0 where
  pub written : List Written
  pub right : AllByRecursion IsSegment written
  pub pieces_are : pieces ≡ map segment_text written
  pub segments_are : segments ≡ done ++ map meaning written

pub segments_read : (pieces : List (List ℕ)) (done : List Segment) (place : ℕ) (segments : List Segment) → segments_at done place pieces ≡ Ok segments → AreSegmentsOf pieces done segments
segments_read [] done place segments h = record { written = []; right = tt; pieces_are = refl; segments_are = sym (same_ok done segments h) ∙ sym (append-nil done) }
segments_read (piece ∷ rest) done place segments h =
    let one = both (segment_at place piece) (λ s. segments_at (done ++ s ∷ []) (place + (length piece + 1)) rest) segments h in
    let s = segment_read place piece one.0 one.1 in
    let more = segments_read rest (done ++ one.0 ∷ []) (place + (length piece + 1)) segments one.2 in
    record {
      written = s.written ∷ more.written;
      right = (s.right, more.right);
      pieces_are = ap (λ l. l ∷ rest) s.text_is ∙ ap (λ l. segment_text s.written ∷ l) more.pieces_are;
      segments_are = more.segments_are ∙ append_assoc done (one.0 ∷ []) (map meaning more.written) ∙ ap (λ x. done ++ x ∷ map meaning more.written) s.means;
    }

-- The canonical spelling is written in the format.
use Rattle.std.proofs.Common.{◌≡◌, ℕ, ◌<◌, ◌==◌, false, List, [], ◌∷◌, ◌++◌, length, map, Some, refl, ap, sym, ◌∙◌, subst, arith, append-nil}
use Rattle.std.proofs.lemmas.Bool.Decides.{nat_tests}
use Rattle.std.proofs.lemmas.List.{length-map}
use Rattle.std.proofs.lemmas.List.Elements.{All-head, All-tail}
use Rattle.std.specs.List.{All, AllByRecursion, join_with_byte}
use Rattle.std.specs.Str.{IsUtf8}
use Rattle.unique_id.specs.declared.unique_id.Segment.{Segment}
use Rattle.unique_id.specs.Escapes.{byte_of}
use Rattle.unique_id.specs.Grammar.{Item, Plain, Escape, IsItem, item_text, item_byte, part_text, part_bytes, IsPart, Written, IsSegment, segment_text, meaning, is_delimiter, IsId}
use Rattle.unique_id.specs.Segments.{IsWhole, IsText}
use Rattle.unique_id.specs.Spelling.{spelling, spelled_byte, spelled_part, spelled_segment}
use Rattle.unique_id.proofs.Parts.{IsPlain}
use Rattle.unique_id.proofs.ReadBack.{by_byte, open_segment}

-- an item that is written so and stands for this byte
record IsItemFor (byte : ℕ) (written : List ℕ) : Type 0 where
  item : Item
  right : IsItem item
  text_is : item_text item ≡ written
  byte_is : item_byte item ≡ byte

escape_for : (high low byte : ℕ) → byte_of high low ≡ Some byte → IsItemFor byte (37 ∷ high ∷ low ∷ [])
escape_for high low byte h = record { item = Escape high low byte; right = h; text_is = refl; byte_is = refl }

plain_for : (b : ℕ) → IsPlain b → IsItemFor b (b ∷ [])
plain_for b p =
    let percent : (b == 37) ≡ false = grind (arith, nat_tests, p.percent) in
    let inside : is_delimiter b ≡ false = grind (arith, nat_tests, p.open_bracket, p.close_bracket, p.colon, p.slash) in
    record { item = Plain b; right = (percent, inside); text_is = refl; byte_is = refl }

item_for : (b : ℕ) → IsItemFor b (spelled_byte b)
item_for b = by_byte IsItemFor (escape_for 50 53 37 refl) (escape_for 50 66 43 refl) (escape_for 53 66 91 refl) (escape_for 53 68 93 refl) (escape_for 51 65 58 refl) (escape_for 50 70 47 refl) plain_for b

-- items that spell these bytes
record AreItemsFor (bytes : List ℕ) : Type 0 where
  items : List Item
  right : AllByRecursion IsItem items
  text_is : part_text items ≡ spelled_part bytes
  bytes_are : part_bytes items ≡ bytes

items_for : (bytes : List ℕ) → AreItemsFor bytes
items_for [] = record { items = []; right = tt; text_is = refl; bytes_are = refl }
items_for (b ∷ bytes) =
    let one = item_for b in
    let more = items_for bytes in
    record {
      items = one.item ∷ more.items;
      right = (one.right, more.right);
      text_is = ap (λ l. l ++ part_text more.items) one.text_is ∙ ap (λ l. spelled_byte b ++ l) more.text_is;
      bytes_are = ap (λ n. n ∷ part_bytes more.items) one.byte_is ∙ ap (λ l. b ∷ l) more.bytes_are;
    }

part_for : (bytes : List ℕ) → 0 < length bytes → IsUtf8 bytes → IsPart (items_for bytes).items
part_for bytes some utf8 =
    let are = items_for bytes in
    record {
      some_item = omega (arith, some, ap length are.bytes_are, length-map are.items item_byte);
      each_item = are.right;
      utf8 = subst IsUtf8 (sym are.bytes_are) utf8;
    }

-- how the canonical spelling writes a segment
written_for : Segment → Written
written_for s = record { kind = (items_for s.kind).items; value = (items_for s.value).items }

segment_for : (s : Segment) → IsWhole s → IsText s → IsSegment (written_for s)
unfolding written_for
segment_for s whole text = record { kind = part_for s.kind whole.0 text.kind; value = part_for s.value whole.1 text.value }

text_for : (s : Segment) → segment_text (written_for s) ≡ spelled_segment s.kind s.value
unfolding written_for
text_for s =
    let value = (items_for s.value).items in
    ap (λ l. 91 ∷ (l ++ 58 ∷ (part_text value ++ 93 ∷ []))) (items_for s.kind).text_is
    ∙ ap (λ l. 91 ∷ (spelled_part s.kind ++ 58 ∷ (l ++ 93 ∷ []))) (items_for s.value).text_is
    ∙ sym (open_segment s.kind s.value [])
    ∙ append-nil (spelled_segment s.kind s.value)

means_for : (s : Segment) → meaning (written_for s) ≡ s
unfolding written_for
means_for s =
    ap (λ k. record { kind = k; value = part_bytes (items_for s.value).items }) (items_for s.kind).bytes_are
    ∙ ap (λ v. record { kind = s.kind; value = v }) (items_for s.value).bytes_are

texts_for : (s : Segment) (rest : List Segment) → join_with_byte 47 (map segment_text (map written_for (s ∷ rest))) ≡ spelling (s ∷ rest)
texts_for s [] = text_for s
texts_for s (t ∷ rest) =
    ap (λ l. l ++ 47 ∷ join_with_byte 47 (map segment_text (map written_for (t ∷ rest)))) (text_for s)
    ∙ ap (λ l. spelled_segment s.kind s.value ++ 47 ∷ l) (texts_for t rest)

all_mean : (segments : List Segment) → map meaning (map written_for segments) ≡ segments
all_mean [] = refl
all_mean (s ∷ rest) = ap (λ x. x ∷ map meaning (map written_for rest)) (means_for s) ∙ ap (λ l. s ∷ l) (all_mean rest)

all_right : (segments : List Segment) → All IsWhole segments → All IsText segments → AllByRecursion IsSegment (map written_for segments)
all_right [] whole text = tt
all_right (s ∷ rest) whole text =
    (segment_for s (All-head IsWhole s rest whole) (All-head IsText s rest text), all_right rest (All-tail IsWhole s rest whole) (All-tail IsText s rest text))

-- the canonical spelling is an id of its segments
pub spelling_is_id : (segments : List Segment) → 0 < length segments → All IsWhole segments → All IsText segments → IsId (spelling segments) segments
spelling_is_id [] some whole text = absurd (omega arith)
spelling_is_id (s ∷ rest) some whole text = record {
  written = map written_for (s ∷ rest);
  some_segment = omega arith;
  each_segment = all_right (s ∷ rest) whole text;
  text_is = sym (texts_for s rest);
  segments_are = sym (all_mean (s ∷ rest));
}

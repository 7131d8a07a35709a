-- What is written in the format is read.
use Rattle.std.proofs.Common.{◌≡◌, inl, inr, ℕ, ◌+◌, ◌-◌, ◌*◌, ◌<◌, ◌==◌, true, false, List, [], ◌∷◌, ◌++◌, length, take, drop, map, Option, Some, None, option_map, Ok, refl, ap, sym, ◌∙◌, arith, append_assoc, append-nil}
use Rattle.std.proofs.lemmas.Bool.Decides.{eqb_tells}
use Rattle.std.proofs.lemmas.List.{take_at, drop_at, length-map}
use Rattle.std.proofs.lemmas.List.Elements.{All-nil, All-cons, All-append}
use Rattle.std.proofs.lemmas.List.Splits.{slice_split_none, slice_split_at}
use Rattle.std.proofs.lemmas.Option.{none-some}
use Rattle.std.specs.Option.{option_and_then}
use Rattle.std.specs.List.{All, AllByRecursion, slice_split, join_with_byte}
use Rattle.unique_id.specs.declared.part.Part.{Part}
use Rattle.unique_id.specs.declared.part.Part.TheVariants as parts
use Rattle.unique_id.specs.declared.unique_id.Segment.{Segment}
use Rattle.unique_id.specs.Escapes.{digit_of, byte_of}
use Rattle.unique_id.specs.Grammar.{Item, Plain, Escape, IsItem, item_byte, part_text, part_bytes, IsPart, Written, IsSegment, segment_text, meaning, is_delimiter}
use Rattle.unique_id.specs.Reading.{item_of, unescaped, part_len, end_of, after, checked, part_before, part_at, segment_at, segments_at}
use Rattle.unique_id.proofs.Checked.{text_checked}
use Rattle.unique_id.proofs.Items.{item_read}

item_plain : (b : ℕ) (rest : List ℕ) → (b == 37) ≡ false → item_of (b ∷ rest) ≡ Some (b, 1)
item_plain b [] h = rw h refl
item_plain b (c ∷ []) h = rw h refl
item_plain b (c ∷ d ∷ rest) h = rw h refl

-- the items of a part are read
items_again : (items : List Item) → AllByRecursion IsItem items → (done : List ℕ) (place : ℕ) → unescaped done place (part_text items) ≡ Ok (done ++ part_bytes items)
items_again [] all done place = ap Ok (sym (append-nil done))
items_again (Plain b ∷ items) (item, all) done place =
    item_read done place (b ∷ part_text items) b 1 (item_plain b (part_text items) item.0)
    ∙ items_again items all (done ++ b ∷ []) (place + 1) ∙ ap Ok (append_assoc done (b ∷ []) (part_bytes items))
items_again (Escape high low b ∷ items) (item, all) done place =
    let of_three : ℕ → ℕ × ℕ = λ n. (n, 3) in
    item_read done place (37 ∷ high ∷ low ∷ part_text items) b 3 (rw item refl)
    ∙ items_again items all (done ++ b ∷ []) (place + 3) ∙ ap Ok (append_assoc done (b ∷ []) (part_bytes items))

-- a byte that ends no part
abbrev pub IsInside : ℕ → Type 0
IsInside b = is_delimiter b ≡ false

-- a byte that is no digit is none of the digits
apart : (d : ℕ) → digit_of d ≡ None → (b n : ℕ) → digit_of b ≡ Some n → (b == d) ≡ false
apart d none b n h = elim (eqb_tells b d) [ inl e ↦ absurd (none-some n (sym none ∙ ap digit_of (sym e.1) ∙ h)) | inr e ↦ e.0 ]

digit_inside : (b n : ℕ) → digit_of b ≡ Some n → IsInside b
digit_inside b n h = rw (apart 91 refl b n h, apart 93 refl b n h, apart 58 refl b n h, apart 47 refl b n h) refl

both_digits : (o p : Option ℕ) (byte : ℕ) → option_and_then (λ h. option_map (λ l. 16 * h + l) p) o ≡ Some byte → (h : ℕ) × (l : ℕ) × (o ≡ Some h) × (p ≡ Some l)
both_digits None p byte h = absurd (none-some byte h)
both_digits (Some high) None byte h = absurd (none-some byte h)
both_digits (Some high) (Some low) byte h = (high, low, refl, refl)

bytes_inside : (high low byte : ℕ) → byte_of high low ≡ Some byte → IsInside high × IsInside low
bytes_inside high low byte h =
    let digits = both_digits (digit_of high) (digit_of low) byte h in
    (digit_inside high digits.0 digits.2, digit_inside low digits.1 digits.3)

pub part_inside : (items : List Item) → AllByRecursion IsItem items → AllByRecursion IsInside (part_text items)
part_inside [] all = tt
part_inside (Plain b ∷ items) (item, all) = (item.1, part_inside items all)
part_inside (Escape high low b ∷ items) (item, all) =
    let digits = bytes_inside high low b item in
    (refl, (digits.0, (digits.1, part_inside items all)))

part_ends : (text : List ℕ) (d : ℕ) (rest : List ℕ) → AllByRecursion IsInside text → is_delimiter d ≡ true → part_len (text ++ d ∷ rest) ≡ length text
part_ends [] d rest all end = rw end refl
part_ends (b ∷ text) d rest (inside, all) end = rw inside (omega (arith, part_ends text d rest all end))

end_delimits : (part : Part) → is_delimiter (end_of part) ≡ true
end_delimits parts.Kind = refl
end_delimits parts.Value = refl

after_end : (part : Part) (rest : List ℕ) → after (end_of part) (end_of part ∷ rest) ≡ Some rest
after_end parts.Kind rest = refl
after_end parts.Value rest = refl

before_again : (part : Part) (place : ℕ) (written behind rest bytes : List ℕ) → unescaped [] place written ≡ Ok bytes → after (end_of part) behind ≡ Some rest
    → checked place written bytes ≡ Ok bytes → part_before part place written behind ≡ Ok (bytes, rest)
unfolding part_before
before_again part place written behind rest bytes read follows fine = rw (read, follows, fine) refl

-- a part is read, whatever follows its end
pub part_again : (part : Part) (place : ℕ) (items : List Item) (rest : List ℕ) → IsPart items → part_at part place (part_text items ++ end_of part ∷ rest) ≡ Ok (part_bytes items, rest)
part_again part place items rest is =
    let written = part_text items in
    let behind = end_of part ∷ rest in
    let bytes = part_bytes items in
    let len : part_len (written ++ behind) ≡ length written = part_ends written (end_of part) rest (part_inside items is.each_item) (end_delimits part) in
    let taken : take (part_len (written ++ behind)) (written ++ behind) ≡ written = ap (λ n. take n (written ++ behind)) len ∙ take_at written behind (length written) refl in
    let dropped : drop (part_len (written ++ behind)) (written ++ behind) ≡ behind = ap (λ n. drop n (written ++ behind)) len ∙ drop_at written behind (length written) refl in
    let some : 0 < length bytes = omega (arith, length-map items item_byte, is.some_item) in
    ap (λ w. part_before part place w (drop (part_len (written ++ behind)) (written ++ behind))) taken
    ∙ ap (part_before part place written) dropped
    ∙ before_again part place written behind rest bytes (items_again items is.each_item [] place) (after_end part rest) (text_checked place written bytes bytes some is.utf8 refl)

-- a segment is read
pub segment_again : (w : Written) (place : ℕ) → IsSegment w → segment_at place (segment_text w) ≡ Ok (meaning w)
unfolding segment_at
segment_again w place is =
    rw (part_again parts.Kind (place + 1) w.kind (part_text w.value ++ 93 ∷ []) is.kind)
    (rw (part_again parts.Value (place + (length (segment_text w) - length (part_text w.value ++ 93 ∷ []))) w.value [] is.value) refl)

pub segments_again : (ws : List Written) → AllByRecursion IsSegment ws → (done : List Segment) (place : ℕ) → segments_at done place (map segment_text ws) ≡ Ok (done ++ map meaning ws)
segments_again [] all done place = ap Ok (sym (append-nil done))
segments_again (w ∷ ws) (is, all) done place =
    rw (segment_again w place is) (segments_again ws all (done ++ meaning w ∷ []) (place + (length (segment_text w) + 1)) ∙ ap Ok (append_assoc done (meaning w ∷ []) (map meaning ws)))

-- no slash stands inside a segment
no_slash : (b : ℕ) → IsInside b → (b == 47) ≡ false
no_slash b h = elim (eqb_tells b 47) [ inl e ↦ (let bad : true ≡ false = ap is_delimiter (sym e.1) ∙ h in cc) | inr e ↦ e.0 ]

text_no_slash : (text : List ℕ) → AllByRecursion IsInside text → All (λ b. (b == 47) ≡ false) text
text_no_slash [] all = All-nil (λ b. (b == 47) ≡ false)
text_no_slash (b ∷ text) (inside, all) = All-cons (λ b. (b == 47) ≡ false) b text (no_slash b inside) (text_no_slash text all)

pub segment_no_slash : (w : Written) → IsSegment w → All (λ b. (b == 47) ≡ false) (segment_text w)
segment_no_slash w is =
    let P : ℕ → Type 0 = λ b. (b == 47) ≡ false in
    let kind = text_no_slash (part_text w.kind) (part_inside w.kind is.kind.each_item) in
    let value = text_no_slash (part_text w.value) (part_inside w.value is.value.each_item) in
    All-cons P 91 (part_text w.kind ++ 58 ∷ (part_text w.value ++ 93 ∷ [])) refl
    (All-append P (part_text w.kind) (58 ∷ (part_text w.value ++ 93 ∷ [])) kind
    (All-cons P 58 (part_text w.value ++ 93 ∷ []) refl (All-append P (part_text w.value) (93 ∷ []) value (All-cons P 93 [] refl (All-nil P)))))

pub split_again : (w : Written) (ws : List Written) → AllByRecursion IsSegment (w ∷ ws)
    → slice_split (λ b. b == 47) (join_with_byte 47 (map segment_text (w ∷ ws))) ≡ map segment_text (w ∷ ws)
split_again w [] (is, all) = slice_split_none (λ b. b == 47) (segment_text w) (segment_no_slash w is)
split_again w (next ∷ ws) (is, all) =
    slice_split_at (λ b. b == 47) (segment_text w) 47 (join_with_byte 47 (map segment_text (next ∷ ws))) (segment_no_slash w is) refl
    ∙ ap (λ l. segment_text w ∷ l) (split_again next ws all)

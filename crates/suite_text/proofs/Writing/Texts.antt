-- The lines of a text that is written line by line.
use Rattle.std.proofs.Common.{◌≡◌, ◌≢◌, ℕ, ◌-◌, ◌<◌, List, [], ◌∷◌, ◌++◌, map, length, take, slice_index, Bool, false, cond, ◌==◌, refl, ap, sym, ◌∙◌, arith, length-append, append-nil}
use Rattle.std.specs.List.{AllByRecursion, slice_split, onto_first}
use Rattle.std.specs.Str.Lines.{lines, lines_of_parts, strip_carriage_return}
use Rattle.std.proofs.lemmas.Bool.{ne_eqb}
use Rattle.std.proofs.lemmas.List.{append_assoc, take_at}
use Rattle.std.proofs.lemmas.List.Splits.{slice_split-cons_yes, slice_split-cons_no, length-slice_split}
use Rattle.suite_text.specs.Writing.Suites.{Line, LineEnd, Feed, ReturnFeed, TextEnd, end_text, text_of_lines, MayEndWith, AreLines}
use Rattle.suite_words.proofs.Lists.{get_last}

abbrev pub is_feed : ℕ → Bool
is_feed byte = byte == 10

abbrev pub HasNoFeed : List ℕ → Type 0
HasNoFeed text = AllByRecursion (λ byte. (byte == 10) ≡ false) text

split_line : (x bs : List ℕ) → HasNoFeed x → slice_split is_feed (x ++ 10 ∷ bs) ≡ x ∷ slice_split is_feed bs
split_line [] bs h = slice_split-cons_yes is_feed 10 bs refl
split_line (b ∷ x) bs h = slice_split-cons_no is_feed b (x ++ 10 ∷ bs) h.0 ∙ ap (onto_first b) (split_line x bs h.1)

split_last : (x : List ℕ) → HasNoFeed x → slice_split is_feed x ≡ x ∷ []
split_last [] h = refl
split_last (b ∷ x) h = slice_split-cons_no is_feed b x h.0 ∙ ap (onto_first b) (split_last x h.1)

no_feed_end : (x : List ℕ) → HasNoFeed x → HasNoFeed (x ++ 13 ∷ [])
no_feed_end [] h = (refl, tt)
no_feed_end (b ∷ x) h = (h.0, no_feed_end x h.1)

parts_more : (x : List ℕ) (parts : List (List ℕ)) → 0 < length parts → lines_of_parts (x ∷ parts) ≡ strip_carriage_return x ∷ lines_of_parts parts
parts_more x [] h = absurd (omega (arith, h))
parts_more x (y ∷ more) h = refl

lines_more : (x bs : List ℕ) → HasNoFeed x → lines (x ++ 10 ∷ bs) ≡ strip_carriage_return x ∷ lines bs
lines_more x bs h =
    let some = length-slice_split is_feed bs in
    ap lines_of_parts (split_line x bs h) ∙ parts_more x (slice_split is_feed bs) (omega (arith, some))

no_return : (x : List ℕ) → slice_index x (length x - 1) ≢ 13 → strip_carriage_return x ≡ x
no_return x h = ap (λ b. cond b (take (length x - 1) x) x) (ne_eqb _ 13 h)

with_return : (x : List ℕ) → strip_carriage_return (x ++ 13 ∷ []) ≡ x
with_return x =
    let more = length-append x (13 ∷ []) in
    let place : length (x ++ 13 ∷ []) - 1 ≡ length x = omega (arith, more) in
    let found : slice_index (x ++ 13 ∷ []) (length (x ++ 13 ∷ []) - 1) ≡ 13 = ap (slice_index (x ++ 13 ∷ [])) place ∙ get_last x 13 in
    ap (λ k. cond (k == 13) (take (length (x ++ 13 ∷ []) - 1) (x ++ 13 ∷ [])) (x ++ 13 ∷ [])) found ∙ ap (λ k. take k (x ++ 13 ∷ [])) place ∙ take_at x (13 ∷ []) _ refl

pub last_line : (x : List ℕ) → 0 < length x → lines_of_parts (x ∷ []) ≡ x ∷ []
last_line [] h = absurd (omega (arith, h))
last_line (b ∷ x) h = ap (λ z. cond z [] ((b ∷ x) ∷ [])) (ne_eqb (length (b ∷ x)) 0 (λ e. omega (arith, e)))

abbrev pub texts_of : List Line → List (List ℕ)
texts_of ls = map (λ line. line.text) ls

line_back : (text : List ℕ) (end : LineEnd) (more : List Line) → HasNoFeed text → MayEndWith end text more → lines (text_of_lines more) ≡ texts_of more
    → lines ((text ++ end_text end) ++ text_of_lines more) ≡ text ∷ texts_of more
line_back text Feed more h may rest =
    ap lines (append_assoc text (10 ∷ []) (text_of_lines more)) ∙ lines_more text (text_of_lines more) h
    ∙ ap (λ x. x ∷ lines (text_of_lines more)) (no_return text may) ∙ ap (λ l. text ∷ l) rest
line_back text ReturnFeed more h may rest =
    ap lines (append_assoc text (13 ∷ 10 ∷ []) (text_of_lines more) ∙ sym (append_assoc text (13 ∷ []) (10 ∷ text_of_lines more)))
    ∙ lines_more (text ++ 13 ∷ []) (text_of_lines more) (no_feed_end text h)
    ∙ ap (λ x. x ∷ lines (text_of_lines more)) (with_return text) ∙ ap (λ l. text ∷ l) rest
line_back text TextEnd more h may rest =
    ap (λ m. lines ((text ++ []) ++ text_of_lines m)) may.0 ∙ ap lines (append-nil (text ++ []) ∙ append-nil text)
    ∙ ap lines_of_parts (split_last text h) ∙ last_line text may.1 ∙ ap (λ m. text ∷ texts_of m) (sym may.0)

pub lines_back : (ls : List Line) → AreLines ls → lines (text_of_lines ls) ≡ texts_of ls
lines_back [] h = refl
lines_back (line ∷ more) h = line_back line.text line.end more h.0 h.1 (lines_back more h.2)

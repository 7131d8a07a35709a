-- Arguments that are written by the grammar are read.
use Rattle.std.proofs.Common.{◌≡◌, ℕ, List, [], ◌∷◌, ◌++◌, Option, Some, append_assoc, encode_utf8, fold, refl, sym, ap, ◌∙◌}
use Rattle.std.proofs.lemmas.List.{append-nil}
use Rattle.std.proofs.lemmas.List.Sums.{fold-append}
use Rattle.std.specs.List.{AllByRecursion, flat_map}
use Rattle.std.specs.Str.{chars}
use Rattle.word_files.specs.Grammar.{Quoted, Bare, Backslashed, Part, Alone, Behind, Single, Double, Item, White, Remark, Whole, End, NoMore, LastRemark, LastWord}
use Rattle.word_files.specs.Grammar.{quoted_chars, quoted_text, part_chars, part_text, item_chars, item_words, end_chars, end_words, written, words_written}
use Rattle.word_files.specs.Grammar.{IsQuoted, IsPart, IsFirst, IsWord, IsRemark, IsItem, IsEnd}
use Rattle.word_files.specs.Reading.{Read, Text, at_start, read_char, words_in, words_read}
use Rattle.word_files.specs.declared.place.Place.{Place}
use Rattle.word_files.specs.declared.place.Place.TheVariants.{Between, Comment, Word, SingleQuotes, DoubleQuotes}

-- what is read at a place
abbrev read_at : Place → Text → List Text → Read
read_at place word words = record { place = place; word = word; words = words }

-- characters behind others
behind : (first next last : Read) (front rest : List ℕ) → fold read_char first front ≡ next → fold read_char next rest ≡ last → fold read_char first (front ++ rest) ≡ last
behind first next last front rest one two = fold-append read_char first front rest ∙ ap (λ (r : Read). fold read_char r rest) one ∙ two

quoted_read : (q : Quoted) (word : Text) (words : List Text) → IsQuoted q → fold read_char (read_at DoubleQuotes word words) (quoted_chars q) ≡ read_at DoubleQuotes (word ++ quoted_text q) words
quoted_read (Bare c) word words is = rw (is.0, is.1)
quoted_read (Backslashed c) word words is = refl

quoteds_read : (qs : List Quoted) (word : Text) (words : List Text) → AllByRecursion IsQuoted qs → fold read_char (read_at DoubleQuotes word words) (flat_map quoted_chars qs) ≡ read_at DoubleQuotes (word ++ flat_map quoted_text qs) words
quoteds_read [] word words are = ap (λ (w : Text). read_at DoubleQuotes w words) (sym (append-nil word))
quoteds_read (q ∷ qs) word words are =
    behind (read_at DoubleQuotes word words) (read_at DoubleQuotes (word ++ quoted_text q) words) _ (quoted_chars q) (flat_map quoted_chars qs) (quoted_read q word words are.0)
    (quoteds_read qs (word ++ quoted_text q) words are.1 ∙ ap (λ (w : Text). read_at DoubleQuotes w words) (append_assoc word (quoted_text q) (flat_map quoted_text qs)))

singles_read : (cs : List ℕ) (word : Text) (words : List Text) → IsPart (Single cs) → fold read_char (read_at SingleQuotes word words) cs ≡ read_at SingleQuotes (word ++ flat_map encode_utf8 cs) words
singles_read [] word words are = ap (λ (w : Text). read_at SingleQuotes w words) (sym (append-nil word))
singles_read (c ∷ cs) word words are =
    let one : read_char (read_at SingleQuotes word words) c ≡ read_at SingleQuotes (word ++ encode_utf8 c) words = rw are.0 in
    ap (λ (r : Read). fold read_char r cs) one ∙ singles_read cs (word ++ encode_utf8 c) words are.1 ∙ ap (λ (w : Text). read_at SingleQuotes w words) (append_assoc word (encode_utf8 c) (flat_map encode_utf8 cs))

-- two quotes and what is between them
single_closed : (cs : List ℕ) (word : Text) (words : List Text) → IsPart (Single cs) → fold read_char (read_at SingleQuotes word words) (cs ++ 39 ∷ []) ≡ read_at Word (word ++ flat_map encode_utf8 cs) words
single_closed cs word words are = behind (read_at SingleQuotes word words) (read_at SingleQuotes (word ++ flat_map encode_utf8 cs) words) _ cs (39 ∷ []) (singles_read cs word words are) refl

double_closed : (qs : List Quoted) (word : Text) (words : List Text) → IsPart (Double qs) → fold read_char (read_at DoubleQuotes word words) (flat_map quoted_chars qs ++ 34 ∷ []) ≡ read_at Word (word ++ flat_map quoted_text qs) words
double_closed qs word words are = behind (read_at DoubleQuotes word words) (read_at DoubleQuotes (word ++ flat_map quoted_text qs) words) _ (flat_map quoted_chars qs) (34 ∷ []) (quoteds_read qs word words are) refl

part_read : (p : Part) (word : Text) (words : List Text) → IsPart p → fold read_char (read_at Word word words) (part_chars p) ≡ read_at Word (word ++ part_text p) words
part_read (Alone c) word words is = rw (is.0, is.1, is.2, is.3)
part_read (Behind c) word words is = refl
part_read (Single cs) word words is = single_closed cs word words is
part_read (Double qs) word words is = double_closed qs word words is

parts_read : (parts : List Part) (word : Text) (words : List Text) → AllByRecursion IsPart parts → fold read_char (read_at Word word words) (flat_map part_chars parts) ≡ read_at Word (word ++ flat_map part_text parts) words
parts_read [] word words are = ap (λ (w : Text). read_at Word w words) (sym (append-nil word))
parts_read (p ∷ parts) word words are =
    behind (read_at Word word words) (read_at Word (word ++ part_text p) words) _ (part_chars p) (flat_map part_chars parts) (part_read p word words are.0)
    (parts_read parts (word ++ part_text p) words are.1 ∙ ap (λ (w : Text). read_at Word w words) (append_assoc word (part_text p) (flat_map part_text parts)))

-- the first part of an argument, between arguments
first_read : (p : Part) (words : List Text) → IsPart p → IsFirst p → fold read_char (read_at Between [] words) (part_chars p) ≡ read_at Word (part_text p) words
first_read (Alone c) words is first = rw (is.0, is.1, is.2, is.3, first)
first_read (Behind c) words is first = refl
first_read (Single cs) words is first = single_closed cs [] words is
first_read (Double qs) words is first = double_closed qs [] words is

word_read : (first : Part) (others : List Part) (words : List Text) → IsWord first others → fold read_char (read_at Between [] words) (part_chars first ++ flat_map part_chars others) ≡ read_at Word (part_text first ++ flat_map part_text others) words
word_read first others words is =
    behind (read_at Between [] words) (read_at Word (part_text first) words) _ (part_chars first) (flat_map part_chars others) (first_read first words is.0 is.1) (parts_read others (part_text first) words is.2)

remark_read : (cs : List ℕ) (words : List Text) → IsRemark cs → fold read_char (read_at Comment [] words) cs ≡ read_at Comment [] words
remark_read [] words is = refl
remark_read (c ∷ cs) words is =
    let one : read_char (read_at Comment [] words) c ≡ read_at Comment [] words = rw is.0 in
    ap (λ (r : Read). fold read_char r cs) one ∙ remark_read cs words is.1

nothing_more : (words : List Text) → read_at Between [] words ≡ read_at Between [] (words ++ [])
nothing_more words = ap (λ (ws : List Text). read_at Between [] ws) (sym (append-nil words))

item_read : (item : Item) (words : List Text) → IsItem item → fold read_char (read_at Between [] words) (item_chars item) ≡ read_at Between [] (words ++ item_words item)
item_read (White c) words is =
    let one : read_char (read_at Between [] words) c ≡ read_at Between [] words = rw is in
    one ∙ nothing_more words
item_read (Remark cs) words is = behind (read_at Comment [] words) (read_at Comment [] words) (read_at Between [] words) cs (10 ∷ []) (remark_read cs words is) refl ∙ nothing_more words
item_read (Whole first others white) words is =
    let ended : read_char (read_at Word (part_text first ++ flat_map part_text others) words) white ≡ read_at Between [] (words ++ (part_text first ++ flat_map part_text others) ∷ []) = rw is.1 in
    behind (read_at Between [] words) (read_at Word (part_text first ++ flat_map part_text others) words) _ (part_chars first ++ flat_map part_chars others) (white ∷ []) (word_read first others words is.0) ended

items_read : (items : List Item) (words : List Text) → AllByRecursion IsItem items → fold read_char (read_at Between [] words) (flat_map item_chars items) ≡ read_at Between [] (words ++ flat_map item_words items)
items_read [] words are = nothing_more words
items_read (item ∷ items) words are =
    behind (read_at Between [] words) (read_at Between [] (words ++ item_words item)) _ (item_chars item) (flat_map item_chars items) (item_read item words are.0)
    (items_read items (words ++ item_words item) are.1 ∙ ap (λ (ws : List Text). read_at Between [] ws) (append_assoc words (item_words item) (flat_map item_words items)))

end_read : (end : End) (words : List Text) → IsEnd end → words_read (fold read_char (read_at Between [] words) (end_chars end)) ≡ Some (words ++ end_words end)
end_read NoMore words is = ap Some (sym (append-nil words))
end_read (LastRemark cs) words is = ap words_read (remark_read cs words is) ∙ ap Some (sym (append-nil words))
end_read (LastWord first others) words is = ap words_read (word_read first others words is)

-- the arguments that are written are those that are read
pub written_read : (items : List Item) (end : End) → AllByRecursion IsItem items → IsEnd end → words_read (fold read_char at_start (written items end)) ≡ Some (words_written items end)
written_read items end are is =
    ap words_read (fold-append read_char at_start (flat_map item_chars items) (end_chars end))
    ∙ ap (λ (r : Read). words_read (fold read_char r (end_chars end))) (items_read items [] are) ∙ end_read end (flat_map item_words items) is

pub written_in : (text : Text) (items : List Item) (end : End) → AllByRecursion IsItem items → IsEnd end → chars text ≡ written items end → words_in text ≡ Some (words_written items end)
unfolding words_in
written_in text items end are is same = ap (λ (cs : List ℕ). words_read (fold read_char at_start cs)) same ∙ written_read items end are is

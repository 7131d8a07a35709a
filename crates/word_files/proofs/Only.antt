-- A text that has arguments is written by the grammar.
use Rattle.std.proofs.Common.{◌≡◌, ℕ, ◌==◌, Bool, true, false, List, [], ◌∷◌, ◌++◌, Option, Some, None, IfSome, append_assoc, fold, if◌then◌else◌, refl, sym, ap, ◌∙◌, subst}
use Rattle.std.proofs.lemmas.Bool.{eqb-true}
use Rattle.std.specs.List.{AllByRecursion, flat_map}
use Rattle.std.specs.Str.{chars}
use Rattle.word_files.specs.Grammar.{Quoted, Bare, Backslashed, Part, Alone, Behind, Single, Double, Item, White, Remark, Whole, End, NoMore, LastRemark, LastWord}
use Rattle.word_files.specs.Grammar.{quoted_chars, part_chars, item_chars, end_chars, written, words_written, IsPart, IsFirst, IsRemark, IsItem, IsEnd, IsWritten}
use Rattle.word_files.specs.Places.{is_white, next_place, within_word}
use Rattle.word_files.specs.Reading.{Read, Text, at_start, read_char, words_at, words_in}
use Rattle.word_files.specs.declared.place.Place.{Place}
use Rattle.word_files.specs.declared.place.Place.TheVariants.{Between, Comment, Word, Escape, SingleQuotes, DoubleQuotes, DoubleEscape}
use Rattle.word_files.proofs.Written.{written_in}

-- what stands behind a place, up to the end of the text: between arguments
record Items (cs : List ℕ) : Type 0 where
  items : List Item
  end : End
  are : AllByRecursion IsItem items
  is : IsEnd end
  same : cs ≡ written items end

-- in a comment, of which this is left
data AfterRemark (said cs : List ℕ) : Type 0 where
  ended : cs ≡ said → AfterRemark said cs
  line_ended : (rest : List ℕ) → cs ≡ said ++ 10 ∷ rest → Items rest → AfterRemark said cs

record Said (cs : List ℕ) : Type 0 where
  said : List ℕ
  is : IsRemark said
  after : AfterRemark said cs

-- in an argument, of which these characters are left
data AfterWord (left cs : List ℕ) : Type 0 where
  at_end : cs ≡ left → AfterWord left cs
  at_white : (white : ℕ) (rest : List ℕ) → is_white white ≡ true → cs ≡ left ++ white ∷ rest → Items rest → AfterWord left cs

record Parts (cs : List ℕ) : Type 0 where
  others : List Part
  are : AllByRecursion IsPart others
  after : AfterWord (flat_map part_chars others) cs

record Escaped (cs : List ℕ) : Type 0 where
  c : ℕ
  rest : List ℕ
  same : cs ≡ c ∷ rest
  parts : Parts rest

record Singles (cs : List ℕ) : Type 0 where
  said : List ℕ
  rest : List ℕ
  is : IsPart (Single said)
  same : cs ≡ said ++ 39 ∷ rest
  parts : Parts rest

record Doubles (cs : List ℕ) : Type 0 where
  quoted : List Quoted
  rest : List ℕ
  is : IsPart (Double quoted)
  same : cs ≡ flat_map quoted_chars quoted ++ 34 ∷ rest
  parts : Parts rest

record EscapedDoubles (cs : List ℕ) : Type 0 where
  c : ℕ
  rest : List ℕ
  same : cs ≡ c ∷ rest
  doubles : Doubles rest

abbrev Tail : Place → List ℕ → Type 0
Tail Between cs = Items cs
Tail Comment cs = Said cs
Tail Word cs = Parts cs
Tail Escape cs = Escaped cs
Tail SingleQuotes cs = Singles cs
Tail DoubleQuotes cs = Doubles cs
Tail DoubleEscape cs = EscapedDoubles cs

-- an argument whose first character is this
record WordRest (c : ℕ) (cs : List ℕ) : Type 0 where
  first : Part
  others : List Part
  is : IsPart first
  plain : (c == 35) ≡ false → IsFirst first
  are : AllByRecursion IsPart others
  after : AfterWord (part_chars first ++ flat_map part_chars others) (c ∷ cs)

-- characters in front of those that are left
after_front : (front left cs : List ℕ) → AfterWord left cs → AfterWord (front ++ left) (front ++ cs)
after_front front left cs (at_end same) = at_end (ap (λ l. front ++ l) same)
after_front front left cs (at_white white rest is same items) = at_white white rest is (ap (λ l. front ++ l) same ∙ sym (append_assoc front left (white ∷ rest))) items

after_part : (first : Part) (c : ℕ) (cs rest : List ℕ) (parts : Parts rest) → c ∷ cs ≡ part_chars first ++ rest → AfterWord (part_chars first ++ flat_map part_chars parts.others) (c ∷ cs)
after_part first c cs rest parts same =
    subst (λ (all : List ℕ). AfterWord (part_chars first ++ flat_map part_chars parts.others) all) (sym same) (after_front (part_chars first) (flat_map part_chars parts.others) rest parts.after)

-- a character of an argument outside quotes
within : (c : ℕ) (cs : List ℕ) (single double escape : Bool) → is_white c ≡ false → (c == 39) ≡ single → (c == 34) ≡ double → (c == 92) ≡ escape
    → Tail (if single then SingleQuotes else (if double then DoubleQuotes else (if escape then Escape else Word))) cs → WordRest c cs
within c cs true double escape white is_single is_double is_escape t = record {
  first = Single t.said;
  others = t.parts.others;
  is = t.is;
  plain = λ other. tt;
  are = t.parts.are;
  after =
      after_part (Single t.said) c cs t.rest t.parts
      (ap (λ (x : ℕ). x ∷ cs) (eqb-true c 39 is_single) ∙ ap (λ (l : List ℕ). 39 ∷ l) (t.same ∙ sym (append_assoc t.said (39 ∷ []) t.rest)));
}
within c cs false true escape white is_single is_double is_escape t = record {
  first = Double t.quoted;
  others = t.parts.others;
  is = t.is;
  plain = λ other. tt;
  are = t.parts.are;
  after =
      after_part (Double t.quoted) c cs t.rest t.parts
      (ap (λ (x : ℕ). x ∷ cs) (eqb-true c 34 is_double) ∙ ap (λ (l : List ℕ). 34 ∷ l) (t.same ∙ sym (append_assoc (flat_map quoted_chars t.quoted) (34 ∷ []) t.rest)));
}
within c cs false false true white is_single is_double is_escape t = record {
  first = Behind t.c;
  others = t.parts.others;
  is = tt;
  plain = λ other. tt;
  are = t.parts.are;
  after = after_part (Behind t.c) c cs t.rest t.parts (ap (λ (x : ℕ). x ∷ cs) (eqb-true c 92 is_escape) ∙ ap (λ (l : List ℕ). 92 ∷ l) t.same);
}
within c cs false false false white is_single is_double is_escape t = record {
  first = Alone c;
  others = t.others;
  is = (white, is_single, is_double, is_escape);
  plain = λ other. other;
  are = t.are;
  after = after_part (Alone c) c cs cs t refl;
}

-- three texts one behind the other
regroup : (front middle rest last : List ℕ) → front ++ (middle ++ (rest ++ last)) ≡ ((front ++ middle) ++ rest) ++ last
regroup front middle rest last = sym (append_assoc (front ++ middle) rest last ∙ append_assoc front middle (rest ++ last))

-- a comment that begins here
said_items : (c : ℕ) (cs said : List ℕ) → (c == 35) ≡ true → IsRemark said → AfterRemark said cs → Items (c ∷ cs)
said_items c cs said is_mark is (ended same) = record {
  items = [];
  end = LastRemark said;
  are = tt;
  is = is;
  same = ap (λ (x : ℕ). x ∷ cs) (eqb-true c 35 is_mark) ∙ ap (λ (l : List ℕ). 35 ∷ l) same;
}
said_items c cs said is_mark is (line_ended rest same more) = record {
  items = Remark said ∷ more.items;
  end = more.end;
  are = (is, more.are);
  is = more.is;
  same =
      ap (λ (x : ℕ). x ∷ cs) (eqb-true c 35 is_mark)
      ∙ ap (λ (l : List ℕ). 35 ∷ l) (same ∙ ap (λ (l : List ℕ). said ++ 10 ∷ l) more.same ∙ regroup said (10 ∷ []) (flat_map item_chars more.items) (end_chars more.end));
}

-- an argument that begins here
word_items : (c : ℕ) (cs : List ℕ) (first : Part) (others : List Part) → IsPart first → IsFirst first → AllByRecursion IsPart others → AfterWord (part_chars first ++ flat_map part_chars others) (c ∷ cs) → Items (c ∷ cs)
word_items c cs first others is plain are (at_end same) = record { items = []; end = LastWord first others; are = tt; is = (is, plain, are); same = same }
word_items c cs first others is plain are (at_white white rest is_space same more) = record {
  items = Whole first others white ∷ more.items;
  end = more.end;
  are = (((is, plain, are), is_space), more.are);
  is = more.is;
  same =
      same ∙ ap (λ (l : List ℕ). (part_chars first ++ flat_map part_chars others) ++ white ∷ l) more.same
      ∙ regroup (part_chars first ++ flat_map part_chars others) (white ∷ []) (flat_map item_chars more.items) (end_chars more.end);
}

between : (c : ℕ) (cs : List ℕ) (white mark : Bool) → is_white c ≡ white → (c == 35) ≡ mark → Tail (if white then Between else (if mark then Comment else within_word c)) cs → Items (c ∷ cs)
between c cs true mark is_space is_mark t = record { items = White c ∷ t.items; end = t.end; are = (is_space, t.are); is = t.is; same = ap (λ (l : List ℕ). c ∷ l) t.same }
between c cs false true is_space is_mark t = said_items c cs t.said is_mark t.is t.after
between c cs false false is_space is_mark t =
    let w = within c cs (c == 39) (c == 34) (c == 92) is_space refl refl refl t in
    word_items c cs w.first w.others w.is (w.plain is_mark) w.are w.after

in_word : (c : ℕ) (cs : List ℕ) (white : Bool) → is_white c ≡ white → Tail (if white then Between else within_word c) cs → Parts (c ∷ cs)
in_word c cs true is_space t = record { others = []; are = tt; after = at_white c cs is_space refl t }
in_word c cs false is_space t =
    let w = within c cs (c == 39) (c == 34) (c == 92) is_space refl refl refl t in
    record { others = w.first ∷ w.others; are = (w.is, w.are); after = w.after }

longer_remark : (c : ℕ) (said cs : List ℕ) → AfterRemark said cs → AfterRemark (c ∷ said) (c ∷ cs)
longer_remark c said cs (ended same) = ended (ap (λ (l : List ℕ). c ∷ l) same)
longer_remark c said cs (line_ended rest same more) = line_ended rest (ap (λ (l : List ℕ). c ∷ l) same) more

in_comment : (c : ℕ) (cs : List ℕ) (line_end : Bool) → (c == 10) ≡ line_end → Tail (if line_end then Between else Comment) cs → Said (c ∷ cs)
in_comment c cs true is_end t = record { said = []; is = tt; after = line_ended cs (ap (λ (x : ℕ). x ∷ cs) (eqb-true c 10 is_end)) t }
in_comment c cs false is_end t = record { said = c ∷ t.said; is = (is_end, t.is); after = longer_remark c t.said cs t.after }

in_single : (c : ℕ) (cs : List ℕ) (quote : Bool) → (c == 39) ≡ quote → Tail (if quote then Word else SingleQuotes) cs → Singles (c ∷ cs)
in_single c cs true is_quote t = record { said = []; rest = cs; is = tt; same = ap (λ (x : ℕ). x ∷ cs) (eqb-true c 39 is_quote); parts = t }
in_single c cs false is_quote t = record { said = c ∷ t.said; rest = t.rest; is = (is_quote, t.is); same = ap (λ (l : List ℕ). c ∷ l) t.same; parts = t.parts }

in_double : (c : ℕ) (cs : List ℕ) (quote escape : Bool) → (c == 34) ≡ quote → (c == 92) ≡ escape → Tail (if quote then Word else (if escape then DoubleEscape else DoubleQuotes)) cs → Doubles (c ∷ cs)
in_double c cs true escape is_quote is_escape t = record { quoted = []; rest = cs; is = tt; same = ap (λ (x : ℕ). x ∷ cs) (eqb-true c 34 is_quote); parts = t }
in_double c cs false true is_quote is_escape t = record {
  quoted = Backslashed t.c ∷ t.doubles.quoted;
  rest = t.doubles.rest;
  is = (tt, t.doubles.is);
  same = ap (λ (x : ℕ). x ∷ cs) (eqb-true c 92 is_escape) ∙ ap (λ (l : List ℕ). 92 ∷ l) (t.same ∙ ap (λ (l : List ℕ). t.c ∷ l) t.doubles.same);
  parts = t.doubles.parts;
}
in_double c cs false false is_quote is_escape t = record { quoted = Bare c ∷ t.quoted; rest = t.rest; is = ((is_quote, is_escape), t.is); same = ap (λ (l : List ℕ). c ∷ l) t.same; parts = t.parts }

-- a place where a text may end
abbrev closes : Place → Bool
closes Between = true
closes Comment = true
closes Word = true
closes Escape = false
closes SingleQuotes = false
closes DoubleQuotes = false
closes DoubleEscape = false

tail : (cs : List ℕ) (place : Place) → closes (fold next_place place cs) ≡ true → Tail place cs
tail [] Between is = record { items = []; end = NoMore; are = tt; is = tt; same = refl }
tail [] Comment is = record { said = []; is = tt; after = ended refl }
tail [] Word is = record { others = []; are = tt; after = at_end refl }
tail [] Escape is = cc
tail [] SingleQuotes is = cc
tail [] DoubleQuotes is = cc
tail [] DoubleEscape is = cc
tail (c ∷ cs) Between is = between c cs (is_white c) (c == 35) refl refl (tail cs (next_place Between c) is)
tail (c ∷ cs) Comment is = in_comment c cs (c == 10) refl (tail cs (next_place Comment c) is)
tail (c ∷ cs) Word is = in_word c cs (is_white c) refl (tail cs (next_place Word c) is)
tail (c ∷ cs) Escape is = record { c = c; rest = cs; same = refl; parts = tail cs Word is }
tail (c ∷ cs) SingleQuotes is = in_single c cs (c == 39) refl (tail cs (next_place SingleQuotes c) is)
tail (c ∷ cs) DoubleQuotes is = in_double c cs (c == 34) (c == 92) refl refl (tail cs (next_place DoubleQuotes c) is)
tail (c ∷ cs) DoubleEscape is = record { c = c; rest = cs; same = refl; doubles = tail cs DoubleQuotes is }

-- the place behind characters
place_behind : (cs : List ℕ) (read : Read) → (fold read_char read cs).place ≡ fold next_place read.place cs
place_behind [] read = refl
place_behind (c ∷ cs) read = place_behind cs (read_char read c)

ends_there : (place : Place) (word : Text) (words all : List Text) → words_at place word words ≡ Some all → closes place ≡ true
ends_there Between word words all is = refl
ends_there Comment word words all is = refl
ends_there Word word words all is = refl
ends_there Escape word words all is = cc
ends_there SingleQuotes word words all is = cc
ends_there DoubleQuotes word words all is = cc
ends_there DoubleEscape word words all is = cc

items_of : (text : Text) (words : List Text) → words_in text ≡ Some words → Items (chars text)
unfolding words_in
items_of text words is =
    let read = fold read_char at_start (chars text) in
    tail (chars text) Between (ap closes (sym (place_behind (chars text) at_start)) ∙ ends_there read.place read.word read.words words is)

-- the arguments of a text are those that it is written for
pub only_written : (text : Text) (words : List Text) → words_in text ≡ Some words → IsWritten (chars text) words
only_written text words is =
    let found = items_of text words is in
    let stand : Some (words_written found.items found.end) ≡ Some words = sym (written_in text found.items found.end found.are found.is found.same) ∙ is in
    record { items = found.items; end = found.end; are_items = found.are; is_end = found.is; same = found.same; stand_for = cc }

pub maybe_written : (text : Text) (words : Option (List Text)) → words ≡ words_in text → IfSome words (λ all. IsWritten (chars text) all)
maybe_written text None is = tt
maybe_written text (Some words) is = only_written text words (sym is)

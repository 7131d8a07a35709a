-- A node's line that is read is one that may be written, and declares what was read; so is an after-body's.
use borrow.Author.Tests.{tests}
use Rattle.std.proofs.Common.{rules, ◌≡◌, ◌≢◌, ℕ, zero, suc, ◌+◌, ◌<◌, ◌≤◌, ◌%◌, ◌/◌, ◌||◌, ◌⊎◌, inl, inr, List, [], ◌∷◌, ◌++◌, length, drop, codes, Bool, true, false, not, nat_lt, Option, Some, None, Result, Ok, Err, refl, ap, ap₂, sym, subst, ◌∙◌, arith, length-append, append-nil}
use Rattle.std.specs.Prelude.{◌==◌, if◌then◌else◌}
use Rattle.std.specs.List.{prefix_len, suffix_len}
use Rattle.std.specs.Str.{bytes_eq}
use Rattle.std.proofs.lemmas.Bool.{false≢true}
use Rattle.std.proofs.lemmas.List.{append_assoc}
use Rattle.std.proofs.lemmas.Bool.Decides.{Decides-eqb}
use Rattle.plan_events.specs.declared.status.Status.{Status}
use Rattle.unique_id.specs.Answers.{◌>>=◌}
use Rattle.suite_words.specs.declared.suite.attributes.Attribute as kinds
use Rattle.suite_words.specs.declared.suite.attributes.Attributes.{Attributes}
use Rattle.suite_words.specs.declared.suite.fault.SuiteFault.{SuiteFault}
use Rattle.suite_words.specs.declared.suite.fault.SuiteFault.TheVariants.{BadLine, BadIndent}
use Rattle.suite_words.specs.declared.suite.verdicts.Verdict.{Verdict}
use Rattle.suite_words.specs.declared.suite.verdicts.Verdict.TheVariants.{Pass, Fail, Abort, Disabled}
use Rattle.suite_words.specs.declared.suite.words.Word.{Word}
use Rattle.suite_words.specs.declared.suite.words.Word.TheVariants.{Engine, Class, Test, Factory, Dyn}
use Rattle.suite_words.specs.Reading.After.{is_after, ended, after_said}
use Rattle.suite_words.specs.Reading.Attributes.{no_attributes, attribute_of, with_attribute, attributes_from, attributes_of}
use Rattle.suite_words.specs.Reading.Lines.{without_front, without_end, first_word, after_word, text_after_word, indentation_of, level_of}
use Rattle.suite_words.specs.Reading.Verdicts.{verdict_spelled, no_verdict, verdict_with, verdict_of, status_declared}
use Rattle.suite_words.specs.Reading.Words.{Declaration, word_of, may_stand, placed, with_verdict, with_attributes, with_name, declared_as}
use Rattle.suite_words.specs.Words.{is_space, words_in}
use Rattle.suite_text.specs.Writing.AfterLines.{AfterLine, after_text, IsAfterLine}
use Rattle.suite_text.specs.Writing.Lines.{spaces, indentation, IsWord, said_also, MaySay, Attribute, attributes_text, all_said, MaySayAll, Ending, ending_text, MayExplain, IsEnding, MayEnd, NodeLine, node_text, verdict_said, text_said, declares, IsNodeLine, said_text}
use Rattle.suite_words.specs.Grammar.{word_text, verdict_text}
use Rattle.suite_words.proofs.Reading.Attributes.{of_nothing, at_end, step, next_read}
use Rattle.suite_text.proofs.Writing.Cuts.{indent, Parted, parted, blank_of, follows_is, Behind, behind_of}
use Rattle.suite_text.proofs.Writing.Lines.{indents}
use Rattle.suite_text.proofs.Writing.Said.{chosen_some, ok_then, ok_else, ok_same, spelled, zero_empty, some_length, IsSaid, said_so}
use Rattle.suite_text.proofs.Writing.Words.{Unspaced, Follows, prefix_spaces, after_none, follows_spaces, length_spaces}

-- Tokens.
word_spelled : (text : List ℕ) (w : Word) → word_of text ≡ Some w → text ≡ word_text w
word_spelled text =
    let P : Word → Type 0 = λ w. text ≡ word_text w in
    chosen_some P (bytes_eq text (codes "engine")) Engine _ (spelled text (codes "engine"))
    (chosen_some P (bytes_eq text (codes "class")) Class _ (spelled text (codes "class"))
    (chosen_some P (bytes_eq text (codes "test")) Test _ (spelled text (codes "test"))
    (chosen_some P (bytes_eq text (codes "factory")) Factory _ (spelled text (codes "factory"))
    (chosen_some P (bytes_eq text (codes "dyn")) Dyn _ (spelled text (codes "dyn")) (λ y e. absurd (cc))))))

verdict_is : (text : List ℕ) (v : Verdict) → verdict_spelled text ≡ Some v → text ≡ verdict_text v
verdict_is text =
    let P : Verdict → Type 0 = λ v. text ≡ verdict_text v in
    chosen_some P (bytes_eq text (codes "pass")) Pass _ (spelled text (codes "pass"))
    (chosen_some P (bytes_eq text (codes "fail")) Fail _ (spelled text (codes "fail"))
    (chosen_some P (bytes_eq text (codes "abort")) Abort _ (spelled text (codes "abort"))
    (chosen_some P (bytes_eq text (codes "disabled")) Disabled _ (spelled text (codes "disabled")) (λ y e. absurd (cc)))))

-- before a token there is a space
spaced_off : (rest : List ℕ) → Follows rest → first_word (drop 1 rest) ≢ [] → rest ≡ 32 ∷ drop 1 rest
spaced_off rest follows some = elim (follows_is rest follows) [ inl none ↦ absurd (some (ap (λ l. first_word (drop 1 l)) none)) | inr e ↦ e ]

-- what is left of a text behind a token, with the token in front
behind_space : (rest : List ℕ) → Follows rest → first_word (drop 1 rest) ≢ [] → rest ≡ spaces (suc (indent (drop 1 rest))) ++ (first_word (drop 1 rest) ++ (parted (drop 1 rest)).rest)
behind_space rest follows some = spaced_off rest follows some ∙ ap (λ l. 32 ∷ l) (parted (drop 1 rest)).whole

-- Attributes.
record AreSaid (w : Word) (before said : Attributes) (left rest : List ℕ) : Type 0 where
  pub attributes : List Attribute
  pub tail : List ℕ
  pub rest_is : rest ≡ attributes_text attributes ++ tail
  pub follows : Follows tail
  pub left_is : left ≡ drop 1 tail
  pub may : MaySayAll w before attributes
  pub said_is : said ≡ all_said before attributes

abbrev read_from : ℕ → Word → Attributes → List ℕ → Result (Attributes × List ℕ) SuiteFault
read_from number w before text = attributes_from number w before (words_in text) text

none_said : (number : ℕ) (w : Word) (before said : Attributes) (left rest : List ℕ) → Follows rest → attribute_of w (first_word (drop 1 rest)) ≡ None → read_from number w before (drop 1 rest) ≡ Ok (said, left) → AreSaid w before said left rest
none_said number w before said left rest follows none e =
    let is : (said, left) ≡ (before, drop 1 rest) = ok_same _ (before, drop 1 rest) (said, left) (at_end number w before (drop 1 rest) none) e in
    record {
      attributes = [];
      tail = rest;
      rest_is = refl;
      follows = follows;
      left_is = ap (λ (p : Attributes × List ℕ). p.1) is;
      may = tt;
      said_is = ap (λ (p : Attributes × List ℕ). p.0) is;
    }

more_said : (w : Word) (before next said : Attributes) (left rest : List ℕ) (gap : ℕ) (tail : List ℕ) (text : List ℕ) → IsSaid w before next text → rest ≡ spaces (suc gap) ++ (text ++ tail) → AreSaid w next said left tail → AreSaid w before said left rest
more_said w before next said left rest gap tail text one whole all = record {
  attributes = record { gap = gap; said = one.said } ∷ all.attributes;
  tail = all.tail;
  rest_is = whole ∙ ap₂ (λ a b. spaces (suc gap) ++ (a ++ b)) one.text_is all.rest_is
      ∙ ap (λ l. spaces (suc gap) ++ l) (sym (append_assoc (said_text one.said) (attributes_text all.attributes) all.tail))
      ∙ sym (append_assoc (spaces (suc gap)) (said_text one.said ++ attributes_text all.attributes) all.tail);
  follows = all.follows;
  left_is = all.left_is;
  may = (one.may, subst (λ (a : Attributes). MaySayAll w a all.attributes) one.next_is all.may);
  said_is = all.said_is ∙ ap (λ a. all_said a all.attributes) one.next_is;
}

shorter : (gap : ℕ) (word tail rest : List ℕ) (fuel : ℕ) → rest ≡ spaces (suc gap) ++ (word ++ tail) → length rest ≤ suc fuel → length tail ≤ fuel
shorter gap word tail rest fuel whole h =
    let all = ap length whole in
    let outer = length-append (spaces gap) (word ++ tail) in
    let front = length_spaces gap in
    let inner = length-append word tail in
    omega (arith, all, outer, front, inner, h)

one_by : (fuel number : ℕ) (w : Word) (before said : Attributes) (left rest : List ℕ) → Follows rest → length rest ≤ suc fuel → (a : kinds.Attribute) → attribute_of w (first_word (drop 1 rest)) ≡ Some a
    → read_from number w before (drop 1 rest) ≡ Ok (said, left)
    → ((next : Attributes) (tail : List ℕ) → Follows tail → length tail ≤ fuel → read_from number w next (drop 1 tail) ≡ Ok (said, left) → AreSaid w next said left tail)
    → (r : Result Attributes SuiteFault) → with_attribute number before (first_word (drop 1 rest)) a ≡ r → AreSaid w before said left rest
one_by fuel number w before said left rest follows h a is e go (Err fault) added =
    absurd (let fails : read_from number w before (drop 1 rest) ≡ Err fault = step number w before (drop 1 rest) a is ∙ ap (λ r. r >>= (λ next. read_from number w next (after_word (drop 1 rest)))) added in cc)
one_by fuel number w before said left rest follows h a is e go (Ok next) added =
    let text = drop 1 rest in
    let part = parted text in
    let some : first_word text ≢ [] = λ none. (let no : None ≡ Some a = sym (ap (attribute_of w) none ∙ of_nothing w) ∙ is in cc) in
    let whole = behind_space rest follows some in
    let read : read_from number w next (drop 1 part.rest) ≡ Ok (said, left) = ap (read_from number w next) (sym part.after) ∙ next_read number w before text a is next added ∙ e in
    more_said w before next said left rest (indent text) part.rest (first_word text) (said_so number w before next (first_word text) a part.word is added) whole
    (go next part.rest part.follows (shorter (indent text) (first_word text) part.rest rest fuel whole h) read)

said_from : (fuel number : ℕ) (w : Word) (before said : Attributes) (left rest : List ℕ) → Follows rest → length rest ≤ fuel → (o : Option kinds.Attribute) → attribute_of w (first_word (drop 1 rest)) ≡ o
    → read_from number w before (drop 1 rest) ≡ Ok (said, left) → AreSaid w before said left rest
said_from fuel number w before said left rest follows h None is e = none_said number w before said left rest follows is e
said_from zero number w before said left [] follows h (Some a) is e = absurd (let no : None ≡ Some a = sym (of_nothing w) ∙ is in cc)
said_from zero number w before said left (b ∷ rest) follows h (Some a) is e = absurd (omega (arith, h))
said_from (suc fuel) number w before said left rest follows h (Some a) is e =
    one_by fuel number w before said left rest follows h a is e
    (λ next tail f k read. said_from fuel number w next said left tail f k (attribute_of w (first_word (drop 1 tail))) refl read)
    (with_attribute number before (first_word (drop 1 rest)) a) refl

-- How the line ends.
some_first : (word : List ℕ) → (length word == 0) ≡ false → word ≢ []
some_first [] e none = false≢true (sym e)
some_first (b ∷ bs) e none = cc

record IsEnded (w : Word) (verdict : Option Verdict) (text left tail : List ℕ) : Type 0 where
  pub ending : Option Ending
  pub trailing : ℕ
  pub tail_is : tail ≡ ending_text ending trailing
  pub may : MayEnd w ending
  pub verdict_is : verdict ≡ verdict_said ending
  pub text_is : text ≡ text_said ending

none_may : (number : ℕ) (w : Word) (v : Option Verdict) → no_verdict number w ≡ Ok v → MayEnd w None × (v ≡ None)
none_may number Engine v e = (tt, cc)
none_may number Class v e = (tt, cc)
none_may number Test v e = absurd (cc)
none_may number Factory v e = absurd (cc)
none_may number Dyn v e = absurd (cc)

blank_tail : (tail left : List ℕ) → Follows tail → left ≡ drop 1 tail → first_word left ≡ [] → (n : ℕ) × (tail ≡ spaces n)
blank_tail tail left follows is none = elim (follows_is tail follows) [
  | inl e ↦ (0, e)
  | inr e ↦ (suc (indent left), e ∙ ap (λ l. 32 ∷ l) (sym is ∙ blank_of left none))
]

blank_text : (left : List ℕ) → first_word left ≡ [] → text_after_word left ≡ []
blank_text left none =
    ap text_after_word (blank_of left none) ∙ ap (λ t. without_end (without_front t)) (after_none (suc (indent left)))

pass_may : (number : ℕ) (text : List ℕ) (v : Option Verdict) → (if length text == 0 then Ok (Some Pass) else Err (BadLine number)) ≡ Ok v → (text ≡ []) × (v ≡ Some Pass)
pass_may number text v e = by (length text == 0) refl e
  where
    by : (z : Bool) → (length text == 0) ≡ z → (if z then Ok (Some Pass) else Err (BadLine number)) ≡ Ok v → (text ≡ []) × (v ≡ Some Pass)
    by true none e = (zero_empty text none, cc)
    by false none e = absurd (cc)

-- a verdict that may stand there, and may be followed by this text
record IsVerdict (w : Word) (vd : Verdict) (text : List ℕ) (v : Option Verdict) : Type 0 where
  pub ends : (end : Ending) → IsEnding end → MayEnd w (Some end)
  pub explains : MayExplain vd text
  pub is : v ≡ Some vd

with_may : (number : ℕ) (w : Word) (vd : Verdict) (text : List ℕ) (v : Option Verdict) → verdict_with number w (Some vd) text ≡ Ok v → IsVerdict w vd text v
with_may number Engine vd text v e = absurd (cc)
with_may number Class Pass text v e = let is = pass_may number text v e in record { ends = λ end h. h; explains = is.0; is = is.1 }
with_may number Test Pass text v e = let is = pass_may number text v e in record { ends = λ end h. h; explains = is.0; is = is.1 }
with_may number Factory Pass text v e = let is = pass_may number text v e in record { ends = λ end h. h; explains = is.0; is = is.1 }
with_may number Dyn Pass text v e = let is = pass_may number text v e in record { ends = λ end h. h; explains = is.0; is = is.1 }
with_may number Class Fail text v e = record { ends = λ end h. h; explains = tt; is = cc }
with_may number Test Fail text v e = record { ends = λ end h. h; explains = tt; is = cc }
with_may number Factory Fail text v e = record { ends = λ end h. h; explains = tt; is = cc }
with_may number Dyn Fail text v e = record { ends = λ end h. h; explains = tt; is = cc }
with_may number Class Abort text v e = record { ends = λ end h. h; explains = tt; is = cc }
with_may number Test Abort text v e = record { ends = λ end h. h; explains = tt; is = cc }
with_may number Factory Abort text v e = record { ends = λ end h. h; explains = tt; is = cc }
with_may number Dyn Abort text v e = record { ends = λ end h. h; explains = tt; is = cc }
with_may number Class Disabled text v e = record { ends = λ end h. h; explains = tt; is = cc }
with_may number Test Disabled text v e = record { ends = λ end h. h; explains = tt; is = cc }
with_may number Factory Disabled text v e = record { ends = λ end h. h; explains = tt; is = cc }
with_may number Dyn Disabled text v e = record { ends = λ end h. h; explains = tt; is = cc }

no_spelled : (number : ℕ) (w : Word) (text : List ℕ) (v : Option Verdict) → verdict_with number w None text ≡ Ok v → ⊥
no_spelled number Engine text v e = cc
no_spelled number Class text v e = cc
no_spelled number Test text v e = cc
no_spelled number Factory text v e = cc
no_spelled number Dyn text v e = cc

record HasEnding (w : Word) (vd : Verdict) (text tail : List ℕ) : Type 0 where
  pub ending : Ending
  pub trailing : ℕ
  pub tail_is : tail ≡ ending_text (Some ending) trailing
  pub is : IsEnding ending
  pub verdict : ending.verdict ≡ vd
  pub says : text ≡ ending.text

verdict_ends : (w : Word) (vd : Verdict) (left tail : List ℕ) → Follows tail → left ≡ drop 1 tail → first_word left ≢ [] → first_word left ≡ verdict_text vd → MayExplain vd (text_after_word left) → HasEnding w vd (text_after_word left) tail
verdict_ends w vd left tail follows is some spelled_is may =
    let part = parted left in
    let b = behind_of part.rest part.follows in
    let text : b.text ≡ text_after_word left = b.text_is ∙ ap (λ t. without_end (without_front t)) (sym part.after) in
    let space : tail ≡ 32 ∷ left = spaced_off tail follows (λ none. some (ap first_word is ∙ none)) ∙ ap (λ l. 32 ∷ l) (sym is) in
    record {
      ending = record { gap = indent left; verdict = vd; behind = b.behind; text = b.text };
      trailing = b.trailing;
      tail_is = space ∙ ap (λ l. 32 ∷ l) part.whole ∙ ap₂ (λ word rest. spaces (suc (indent left)) ++ (word ++ rest)) spelled_is b.whole;
      is = record { explains = subst (MayExplain vd) (sym text) may; front = b.front; back = b.back; apart = b.apart };
      verdict = refl;
      says = sym text;
    }

spelled_by : (number : ℕ) (w : Word) (v : Option Verdict) (left tail : List ℕ) → Follows tail → left ≡ drop 1 tail → first_word left ≢ [] → (o : Option Verdict) → verdict_spelled (first_word left) ≡ o
    → verdict_with number w o (text_after_word left) ≡ Ok v → IsEnded w v (text_after_word left) left tail
spelled_by number w v left tail follows is some None spelled_is e = absurd (no_spelled number w (text_after_word left) v e)
spelled_by number w v left tail follows is some (Some vd) spelled_is e =
    let may = with_may number w vd (text_after_word left) v e in
    let has = verdict_ends w vd left tail follows is some (verdict_is (first_word left) vd spelled_is) may.explains in
    record {
      ending = Some has.ending;
      trailing = has.trailing;
      tail_is = has.tail_is;
      may = may.ends has.ending has.is;
      verdict_is = may.is ∙ ap Some (sym has.verdict);
      text_is = has.says;
    }

ended_by : (number : ℕ) (w : Word) (v : Option Verdict) (left tail first : List ℕ) → Follows tail → left ≡ drop 1 tail → first_word left ≡ first → (z : Bool) → (length first == 0) ≡ z
    → (if z then no_verdict number w else verdict_with number w (verdict_spelled first) (text_after_word left)) ≡ Ok v → IsEnded w v (text_after_word left) left tail
ended_by number w v left tail first follows is at true z e =
    let none : first_word left ≡ [] = at ∙ zero_empty first z in
    let may = none_may number w v e in
    let blank = blank_tail tail left follows is none in
    record { ending = None; trailing = blank.0; tail_is = blank.1; may = may.0; verdict_is = may.1; text_is = blank_text left none }
ended_by number w v left tail first follows is at false z e =
    spelled_by number w v left tail follows is (λ none. some_first first z (sym at ∙ none)) (verdict_spelled first) (ap verdict_spelled at) e

-- The whole line.
record IsWords (above : Option Word) (first rest : List ℕ) (d : Declaration) : Type 0 where
  pub line : NodeLine
  pub first_is : first ≡ word_text line.word
  pub rest_is : rest ≡ spaces (suc line.gap) ++ (line.name ++ (attributes_text line.attributes ++ ending_text line.ending line.trailing))
  pub is : IsNodeLine above line
  pub declares_is : d ≡ declares line

placed_is : (number : ℕ) (above o : Option Word) (w : Word) → placed number above o ≡ Ok w → (o ≡ Some w) × (may_stand above w ≡ true)
placed_is number above None w e = absurd (cc)
placed_is number above (Some x) w e = by (may_stand above x) refl e
  where
    by : (b : Bool) → may_stand above x ≡ b → (if b then Ok x else Err (BadLine number)) ≡ Ok w → (Some x ≡ Some w) × (may_stand above w ≡ true)
    by true stands e = let same : x ≡ w = cc in (ap Some same, sym (ap (may_stand above) same) ∙ stands)
    by false stands e = absurd (cc)

declared_words : (number : ℕ) (above : Option Word) (first rest : List ℕ) (d : Declaration) → Follows rest → declared_as number above first (drop 1 rest) ≡ Ok d → IsWords above first rest d
declared_words number above first rest d follows e =
    let text = drop 1 rest in
    let word = ok_then (placed number above (word_of first)) (λ w. with_name number w text) d e in
    let w = word.0 in
    let stands = placed_is number above (word_of first) w word.1 in
    let named = ok_else (length (first_word text) == 0) (BadLine number) (with_attributes number w (first_word text) (after_word text)) d word.2 in
    let some = some_first (first_word text) named.0 in
    let part = parted text in
    let whole = behind_space rest follows some in
    let read = ok_then (attributes_of number w (after_word text)) (λ r. with_verdict number w (first_word text) r.0 r.1) d named.1 in
    let said = read.0.0 in
    let left = read.0.1 in
    let from : read_from number w no_attributes (drop 1 part.rest) ≡ Ok (said, left) = ap (read_from number w no_attributes) (sym part.after) ∙ read.1 in
    let all = said_from (length part.rest) number w no_attributes said left part.rest part.follows (omega arith) (attribute_of w (first_word (drop 1 part.rest))) refl from in
    let verdict = ok_then (verdict_of number w (first_word left) (text_after_word left)) (λ v. Ok (record { word = w; name = first_word text; attributes = said; verdict = v; text = text_after_word left })) d read.2 in
    let ends = ended_by number w verdict.0 left all.tail (first_word left) all.follows all.left_is refl (length (first_word left) == 0) refl verdict.1 in
    let line : NodeLine = record { word = w; gap = indent text; name = first_word text; attributes = all.attributes; ending = ends.ending; trailing = ends.trailing } in
    let declared : (attributes : Attributes) (v : Option Verdict) (t : List ℕ) → Declaration = λ attributes v t. record { word = w; name = first_word text; attributes = attributes; verdict = v; text = t } in
    record {
      line = line;
      first_is = word_spelled first w stands.0;
      rest_is = whole ∙ ap (λ l. spaces (suc (indent text)) ++ (first_word text ++ l)) (all.rest_is ∙ ap (λ l. attributes_text all.attributes ++ l) ends.tail_is);
      is = record { stands = stands.1; name = (some_length (first_word text) named.0, part.word); attributes = all.may; ending = ends.may };
      declares_is = ok_same _ (declared said verdict.0 (text_after_word left)) d refl verdict.2
          ∙ ap (λ a. declared a verdict.0 (text_after_word left)) all.said_is
          ∙ ap₂ (λ v t. declared (all_said no_attributes all.attributes) v t) ends.verdict_is ends.text_is;
    }

-- Its level.
level_by : (number deepest n level : ℕ) (b : Bool) → (not (n % 2 == 0) || nat_lt deepest (n / 2)) ≡ b → (if b then Err (BadIndent number) else Ok (n / 2)) ≡ Ok level → (n ≡ level + level) × (level ≤ deepest)
level_by number deepest n level true is e = absurd (cc)
level_by number deepest n level false is e =
    let half : n / 2 ≡ level = cc in
    let parts = neither (n % 2 == 0) (nat_lt deepest (n / 2)) is in
    let even : n % 2 ≡ 0 = (Decides-eqb (n % 2) 0).0 parts.0 in
    let within : n / 2 ≤ deepest = not_less deepest (n / 2) parts.1 in
    (omega (arith, half, even), omega (arith, half, within))
  where
    neither : (a b : Bool) → (not a || b) ≡ false → (a ≡ true) × (b ≡ false)
    neither true b e = (refl, e)
    neither false b e = absurd (cc)

    not_less : (a b : ℕ) → nat_lt a b ≡ false → b ≤ a
    not_less a b e = search (rules, tests)

pub level_so : (number deepest level : ℕ) (line : List ℕ) → level_of number deepest line ≡ Ok level → (indent line ≡ level + level) × (level ≤ deepest)
level_so number deepest level line e = level_by number deepest (indentation_of line) level _ refl e

indented : (line : List ℕ) (level : ℕ) → indent line ≡ level + level → line ≡ indentation level ++ (first_word line ++ (parted line).rest)
indented line level is = (parted line).whole ∙ ap (λ l. l ++ (first_word line ++ (parted line).rest)) (ap spaces is ∙ sym (indents level))

pub record IsLine (level : ℕ) (above : Option Word) (line : List ℕ) (d : Declaration) : Type 0 where
  pub node : NodeLine
  pub text_is : line ≡ node_text level node
  pub is : IsNodeLine above node
  pub declares_is : d ≡ declares node

pub node_so : (number level : ℕ) (above : Option Word) (line : List ℕ) (d : Declaration) → indent line ≡ level + level → declared_as number above (first_word line) (after_word line) ≡ Ok d → IsLine level above line d
node_so number level above line d at e =
    let part = parted line in
    let words = declared_words number above (first_word line) part.rest d part.follows (ap (declared_as number above (first_word line)) (sym part.after) ∙ e) in
    record {
      node = words.line;
      text_is = indented line level at ∙ ap₂ (λ first rest. indentation level ++ (first ++ rest)) words.first_is words.rest_is;
      is = words.is;
      declares_is = words.declares_is;
    }

-- An after-body's line.
pub record IsAfter (level : ℕ) (line : List ℕ) (said : Status × List ℕ) : Type 0 where
  pub after : AfterLine
  pub text_is : line ≡ after_text level after
  pub is : IsAfterLine after
  pub said_is : said ≡ (is.status, after.ending.text)

ended_is : (number : ℕ) (status : Option Status) (text : List ℕ) (said : Status × List ℕ) → ended number status text ≡ Ok said → (s : Status) × (status ≡ Some s) × (said ≡ (s, text))
ended_is number None text said e = absurd (cc)
ended_is number (Some s) text said e = (s, refl, cc)

some_ending : (o : Option Ending) (status : Status) → status_declared (verdict_said o) ≡ Some status → (end : Ending) × (o ≡ Some end)
some_ending None status e = absurd (cc)
some_ending (Some end) status e = (end, refl)

pub after_so : (number level : ℕ) (line : List ℕ) (said : Status × List ℕ) → indent line ≡ level + level → is_after line ≡ true → after_said number (after_word line) ≡ Ok said → IsAfter level line said
after_so number level line said at after e =
    let part = parted line in
    let left = drop 1 part.rest in
    let read = ok_then (verdict_of number Test (first_word left) (text_after_word left)) (λ v. ended number (status_declared v) (text_after_word left)) said (ap (after_said number) (sym part.after) ∙ e) in
    let ends = ended_by number Test read.0 left part.rest (first_word left) part.follows refl refl (length (first_word left) == 0) refl read.1 in
    let status = ended_is number (status_declared read.0) (text_after_word left) said read.2 in
    let has = some_ending ends.ending status.0 (sym (ap status_declared ends.verdict_is) ∙ status.1) in
    let ends_so : IsEnding has.0 = subst (MayEnd Test) has.1 ends.may in
    let tail : part.rest ≡ ending_text (Some has.0) ends.trailing = ends.tail_is ∙ ap (λ o. ending_text o ends.trailing) has.1 in
    let declared : status_declared (Some has.0.verdict) ≡ Some status.0 = sym (ap (λ o. status_declared (verdict_said o)) has.1) ∙ sym (ap status_declared ends.verdict_is) ∙ status.1 in
    record {
      after = record { ending = has.0; trailing = ends.trailing };
      text_is = indented line level at ∙ ap₂ (λ first rest. indentation level ++ (first ++ rest)) (spelled (first_word line) (codes "after") after) tail;
      is = record { ending = ends_so; status = status.0; ends = declared };
      said_is = status.2 ∙ ap (λ t. (status.0, t)) (ends.text_is ∙ ap text_said has.1);
    }

-- A text is what was cut off from it: spaces, its first token, and what follows that.
use Rattle.std.proofs.Common.{◌≡◌, ℕ, zero, suc, ◌+◌, ◌<◌, ◌⊎◌, inl, inr, List, [], ◌∷◌, ◌++◌, length, reverse, take, drop, Bool, true, false, cond, not, Some, refl, ap, ap₂, sym, subst, ◌∙◌, arith, length-append, append-nil}
use Rattle.std.specs.Prelude.{◌==◌}
use Rattle.std.proofs.lemmas.Bool.Decides.{Decides-eqb}
use Rattle.std.proofs.lemmas.List.{reverse-append, reverse-reverse}
use Rattle.std.specs.List.{AllByRecursion, before_first, after_first, position_or_len, prefix_len, suffix_len}
use Rattle.suite_words.specs.Reading.Lines.{without_front, without_end, first_word, after_word}
use Rattle.suite_words.specs.Words.{is_space}
use Rattle.suite_text.specs.Writing.Lines.{spaces}
use Rattle.suite_words.proofs.FirstWords.{spaced, unspaced}
use Rattle.suite_text.proofs.Writing.Words.{Unspaced, Follows, reverse_spaces, without_end_is}

space_is : (b : ℕ) → is_space b ≡ true → b ≡ 32
space_is b e = (Decides-eqb b 32).0 e

-- spaces in front
abbrev pub indent : List ℕ → ℕ
indent text = prefix_len is_space text

indent_yes : (b : ℕ) (bs : List ℕ) → is_space b ≡ true → indent (b ∷ bs) ≡ suc (indent bs)
indent_yes b bs e = let one = ap (λ z. cond z (1 + prefix_len is_space bs) 0) e in omega (arith, one)

indent_no : (b : ℕ) (bs : List ℕ) → is_space b ≡ false → indent (b ∷ bs) ≡ 0
indent_no b bs e = ap (λ z. cond z (1 + prefix_len is_space bs) 0) e

front_by : (b : ℕ) (bs : List ℕ) (z : Bool) → is_space b ≡ z → bs ≡ spaces (indent bs) ++ without_front bs → b ∷ bs ≡ spaces (indent (b ∷ bs)) ++ without_front (b ∷ bs)
front_by b bs true e more =
    ap₂ (λ x l. x ∷ l) (space_is b e) (more ∙ ap (λ l. spaces (indent bs) ++ l) (sym (spaced b bs e))) ∙ ap (λ k. spaces k ++ without_front (b ∷ bs)) (sym (indent_yes b bs e))
front_by b bs false e more = sym (unspaced b bs e) ∙ ap (λ k. spaces k ++ without_front (b ∷ bs)) (sym (indent_no b bs e))

pub front_of : (text : List ℕ) → text ≡ spaces (indent text) ++ without_front text
front_of [] = refl
front_of (b ∷ bs) = front_by b bs (is_space b) refl (front_of bs)

gone_by : (b : ℕ) (bs : List ℕ) (z : Bool) → is_space b ≡ z → indent (without_front bs) ≡ 0 → indent (without_front (b ∷ bs)) ≡ 0
gone_by b bs true e more = ap indent (spaced b bs e) ∙ more
gone_by b bs false e more = ap indent (unspaced b bs e) ∙ indent_no b bs e

pub front_gone : (text : List ℕ) → indent (without_front text) ≡ 0
front_gone [] = refl
front_gone (b ∷ bs) = gone_by b bs (is_space b) refl (front_gone bs)

-- the first token and what follows it
record Cut (bs : List ℕ) : Type 0 where
  pub rest : List ℕ
  pub whole : bs ≡ before_first is_space bs ++ rest
  pub after : after_first is_space bs ≡ drop 1 rest
  pub follows : Follows rest
  pub word : Unspaced (before_first is_space bs)

at_yes : (b : ℕ) (bs : List ℕ) → is_space b ≡ true → position_or_len is_space (b ∷ bs) ≡ 0
at_yes b bs e = ap (λ z. cond (not z) (1 + position_or_len is_space bs) 0) e

at_no : (b : ℕ) (bs : List ℕ) → is_space b ≡ false → position_or_len is_space (b ∷ bs) ≡ suc (position_or_len is_space bs)
at_no b bs e = let one = ap (λ z. cond (not z) (1 + position_or_len is_space bs) 0) e in omega (arith, one)

pub drop_next : (k b : ℕ) (bs : List ℕ) → drop (suc k + 1) (b ∷ bs) ≡ drop (k + 1) bs
drop_next k b bs = let same : suc k + 1 ≡ suc (k + 1) = omega arith in ap (λ n. drop n (b ∷ bs)) same

before_yes : (b : ℕ) (bs : List ℕ) → is_space b ≡ true → before_first is_space (b ∷ bs) ≡ []
before_yes b bs e = ap (λ k. take k (b ∷ bs)) (at_yes b bs e)

before_no : (b : ℕ) (bs : List ℕ) → is_space b ≡ false → before_first is_space (b ∷ bs) ≡ b ∷ before_first is_space bs
before_no b bs e = ap (λ k. take k (b ∷ bs)) (at_no b bs e)

cut_by : (b : ℕ) (bs : List ℕ) (z : Bool) → is_space b ≡ z → Cut bs → Cut (b ∷ bs)
cut_by b bs true e more = record {
  rest = b ∷ bs;
  whole = ap (λ l. l ++ (b ∷ bs)) (sym (before_yes b bs e));
  after = ap (λ k. drop (k + 1) (b ∷ bs)) (at_yes b bs e);
  follows = e;
  word = subst Unspaced (sym (before_yes b bs e)) tt;
}
cut_by b bs false e more = record {
  rest = more.rest;
  whole = ap (λ l. b ∷ l) more.whole ∙ ap (λ l. l ++ more.rest) (sym (before_no b bs e));
  after = ap (λ k. drop (k + 1) (b ∷ bs)) (at_no b bs e) ∙ drop_next (position_or_len is_space bs) b bs ∙ more.after;
  follows = more.follows;
  word = subst Unspaced (sym (before_no b bs e)) (e, more.word);
}

cut : (bs : List ℕ) → Cut bs
cut [] = record { rest = []; whole = refl; after = refl; follows = tt; word = tt }
cut (b ∷ bs) = cut_by b bs (is_space b) refl (cut bs)

pub record Parted (text : List ℕ) : Type 0 where
  pub rest : List ℕ
  pub whole : text ≡ spaces (indent text) ++ (first_word text ++ rest)
  pub after : after_word text ≡ drop 1 rest
  pub follows : Follows rest
  pub word : Unspaced (first_word text)

pub parted : (text : List ℕ) → Parted text
parted text =
    let c = cut (without_front text) in
    record { rest = c.rest; whole = front_of text ∙ ap (λ l. spaces (indent text) ++ l) c.whole; after = c.after; follows = c.follows; word = c.word }

-- no token
word_by : (b : ℕ) (bs : List ℕ) (z : Bool) → is_space b ≡ z → indent (b ∷ bs) ≡ 0 → before_first is_space (b ∷ bs) ≡ [] → b ∷ bs ≡ []
word_by b bs true e front none = let more = indent_yes b bs e in absurd (omega (arith, more, front))
word_by b bs false e front none = let some : b ∷ before_first is_space bs ≡ [] = sym (before_no b bs e) ∙ none in absurd (cc)

no_word : (bs : List ℕ) → indent bs ≡ 0 → before_first is_space bs ≡ [] → bs ≡ []
no_word [] front none = refl
no_word (b ∷ bs) front none = word_by b bs (is_space b) refl front none

pub blank_of : (text : List ℕ) → first_word text ≡ [] → text ≡ spaces (indent text)
blank_of text none = front_of text ∙ ap (λ l. spaces (indent text) ++ l) (no_word (without_front text) (front_gone text) none) ∙ append-nil (spaces (indent text))

-- what follows a token is nothing, or begins with a space
pub follows_is : (rest : List ℕ) → Follows rest → (rest ≡ []) ⊎ (rest ≡ 32 ∷ drop 1 rest)
follows_is [] h = inl refl
follows_is (b ∷ bs) h = inr (ap (λ x. x ∷ bs) (space_is b h))

-- spaces at the end
pub record Ended (text : List ℕ) : Type 0 where
  pub trailing : ℕ
  pub whole : text ≡ without_end text ++ spaces trailing
  pub back : suffix_len is_space (without_end text) ≡ 0

pub ended_of : (text : List ℕ) → Ended text
ended_of text =
    let front = without_front (reverse text) in
    let n = indent (reverse text) in
    let own = reverse front in
    let whole : text ≡ own ++ spaces n =
    sym (reverse-reverse text) ∙ ap reverse (front_of (reverse text)) ∙ reverse-append (spaces n) front ∙ ap (λ l. own ++ l) (reverse_spaces n) in
    let back : suffix_len is_space own ≡ 0 = ap indent (reverse-reverse front) ∙ front_gone (reverse text) in
    let is : without_end text ≡ own = ap without_end whole ∙ without_end_is own n back in
    record { trailing = n; whole = whole ∙ ap (λ l. l ++ spaces n) (sym is); back = ap (suffix_len is_space) is ∙ back }

front_less_by : (b : ℕ) (bs more : List ℕ) (z : Bool) → is_space b ≡ z → indent (b ∷ (bs ++ more)) ≡ 0 → indent (b ∷ bs) ≡ 0
front_less_by b bs more true e h = let some = indent_yes b (bs ++ more) e in absurd (omega (arith, some, h))
front_less_by b bs more false e h = indent_no b bs e

front_less : (text more : List ℕ) → indent (text ++ more) ≡ 0 → indent text ≡ 0
front_less [] more h = refl
front_less (b ∷ bs) more h = front_less_by b bs more (is_space b) refl h

-- the text that follows a token
pub record Behind (rest : List ℕ) : Type 0 where
  pub behind : ℕ
  pub trailing : ℕ
  pub text : List ℕ
  pub text_is : text ≡ without_end (without_front (drop 1 rest))
  pub whole : rest ≡ spaces behind ++ (text ++ spaces trailing)
  pub front : prefix_len is_space text ≡ 0
  pub back : suffix_len is_space text ≡ 0
  pub apart : (text ≡ []) ⊎ (0 < behind)

behind_by : (rest : List ℕ) → (rest ≡ []) ⊎ (rest ≡ 32 ∷ drop 1 rest) → Behind rest
behind_by rest (inl none) = record {
  behind = 0;
  trailing = 0;
  text = [];
  text_is = ap (λ (l : List ℕ). without_end (without_front (drop 1 l))) (sym none);
  whole = none;
  front = refl;
  back = refl;
  apart = inl refl;
}
behind_by rest (inr some) =
    let r = drop 1 rest in
    let f = without_front r in
    let e = ended_of f in
    record {
      behind = suc (indent r);
      trailing = e.trailing;
      text = without_end f;
      text_is = refl;
      whole = some ∙ ap (λ l. 32 ∷ l) (front_of r ∙ ap (λ l. spaces (indent r) ++ l) e.whole);
      front = front_less (without_end f) (spaces e.trailing) (sym (ap indent e.whole) ∙ front_gone r);
      back = e.back;
      apart = inr (omega arith);
    }

pub behind_of : (rest : List ℕ) → Follows rest → Behind rest
behind_of rest h = behind_by rest (follows_is rest h)

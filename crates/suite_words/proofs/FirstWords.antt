-- The tokens of a text, taken off one by one.
use Rattle.std.proofs.Common.{◌≡◌, ℕ, suc, ◌+◌, ◌<◌, inl, inr, List, [], ◌∷◌, length, filter, drop, Bool, true, false, cond, not, ◌==◌, refl, ap, sym, subst, ◌∙◌, arith, length-take}
use Rattle.std.specs.List.{slice_split, before_first, after_first, position_or_len, prefix_len}
use Rattle.std.proofs.lemmas.Bool.{cases_lt}
use Rattle.std.proofs.lemmas.List.{drop_all, take_all}
use Rattle.std.proofs.lemmas.List.Sums.{fails_before_first}
use Rattle.std.proofs.lemmas.List.Splits.{slice_split_first, slice_split_none, slice_split-cons_yes}
use Rattle.suite_words.specs.Reading.Lines.{without_front, first_word, after_word}
use Rattle.suite_words.specs.Words.{is_space, words_in}

abbrev is_word : List ℕ → Bool
is_word word = not (length word == 0)

-- the tokens of a text are those of its front, up to the first space, and of what follows that space
cut : (bs : List ℕ) → words_in bs ≡ filter is_word (before_first is_space bs ∷ slice_split is_space (after_first is_space bs))
cut bs = elim (cases_lt (position_or_len is_space bs) (length bs)) [
  | inl inside ↦ ap (filter is_word) (slice_split_first is_space bs 0 inside)
  | inr none ↦
      let whole : before_first is_space bs ≡ bs = take_all (position_or_len is_space bs) bs none in
      let nothing : after_first is_space bs ≡ [] = drop_all (position_or_len is_space bs + 1) bs (omega arith) in
      ap (filter is_word) (slice_split_none is_space bs (λ k e m. fails_before_first is_space bs k e (omega arith)))
      ∙ sym (ap (λ x. filter is_word (before_first is_space bs ∷ slice_split is_space x)) nothing ∙ ap (λ x. filter is_word (x ∷ [] ∷ [])) whole)
]

drop_one : (n b : ℕ) (bs : List ℕ) → drop (1 + n) (b ∷ bs) ≡ drop n bs
drop_one n b bs = let e : 1 + n ≡ suc n = omega arith in rw e refl

-- a text that begins with a space
pub spaced : (b : ℕ) (bs : List ℕ) → is_space b ≡ true → without_front (b ∷ bs) ≡ without_front bs
spaced b bs e = ap (λ z. drop (cond z (1 + prefix_len is_space bs) 0) (b ∷ bs)) e ∙ drop_one (prefix_len is_space bs) b bs

-- and one that does not
pub unspaced : (b : ℕ) (bs : List ℕ) → is_space b ≡ false → without_front (b ∷ bs) ≡ b ∷ bs
unspaced b bs e = ap (λ z. drop (cond z (1 + prefix_len is_space bs) 0) (b ∷ bs)) e

keeps_more : (b : ℕ) (bs : List ℕ) (z : Bool) → is_space b ≡ z → words_in (without_front bs) ≡ words_in bs → words_in (without_front (b ∷ bs)) ≡ words_in (b ∷ bs)
keeps_more b bs true e rest = ap words_in (spaced b bs e) ∙ rest ∙ sym (ap (filter is_word) (slice_split-cons_yes is_space b bs e))
keeps_more b bs false e rest = ap words_in (unspaced b bs e)

keeps_words : (bs : List ℕ) → words_in (without_front bs) ≡ words_in bs
keeps_words [] = refl
keeps_words (b ∷ bs) = keeps_more b bs (is_space b) refl (keeps_words bs)

-- a text without spaces in front has no bytes, or its front is a token
data Starts (bs : List ℕ) : Type 0 where
  ends : bs ≡ [] → Starts bs
  goes_on : 0 < length (before_first is_space bs) → Starts bs

first_length : (b : ℕ) (bs : List ℕ) → is_space b ≡ false → 0 < length (before_first is_space (b ∷ bs))
first_length b bs e =
    let at : position_or_len is_space (b ∷ bs) ≡ 1 + position_or_len is_space bs = ap (λ z. cond (not z) (1 + position_or_len is_space bs) 0) e in
    let fits = length-take (position_or_len is_space (b ∷ bs)) (b ∷ bs) in
    omega (arith, at, fits)

starts_more : (b : ℕ) (bs : List ℕ) (z : Bool) → is_space b ≡ z → Starts (without_front bs) → Starts (without_front (b ∷ bs))
starts_more b bs true e rest = subst Starts (sym (spaced b bs e)) rest
starts_more b bs false e rest = subst Starts (sym (unspaced b bs e)) (goes_on (first_length b bs e))

starts : (bs : List ℕ) → Starts (without_front bs)
starts [] = ends refl
starts (b ∷ bs) = starts_more b bs (is_space b) refl (starts bs)

-- the first token of a text and those after it, or a text without tokens
pub data Front (text : List ℕ) : Type 0 where
  blank : first_word text ≡ [] → words_in text ≡ [] → Front text
  begins : words_in text ≡ first_word text ∷ words_in (after_word text) → Front text

kept : (x : List ℕ) (xs : List (List ℕ)) → 0 < length x → filter is_word (x ∷ xs) ≡ x ∷ filter is_word xs
kept x xs h = let some : (length x == 0) ≡ false = grind arith in ap (λ z. cond (not z) (x ∷ filter is_word xs) (filter is_word xs)) some

front_of : (text : List ℕ) → Starts (without_front text) → Front text
front_of text (ends none) = blank (ap (before_first is_space) none) (sym (keeps_words text) ∙ ap words_in none)
front_of text (goes_on first) = begins (sym (keeps_words text) ∙ cut (without_front text) ∙ kept (first_word text) (slice_split is_space (after_word text)) first)

pub front : (text : List ℕ) → Front text
front text = front_of text (starts text)

-- Tokens and texts between spaces are read as they are written.
use Rattle.std.proofs.Common.{◌≡◌, ℕ, zero, suc, ◌+◌, ◌-◌, ◌<◌, ◌||◌, List, [], ◌∷◌, ◌++◌, length, reverse, take, drop, Bool, true, false, cond, not, ◌⊎◌, inl, inr, refl, ap, sym, subst, ◌∙◌, arith, length-append}
use Rattle.std.proofs.lemmas.List.{take_at, drop_at, drop-drop, reverse-append}
use Rattle.std.specs.List.{AllByRecursion, before_first, after_first, position_or_len, prefix_len, suffix_len}
use Rattle.suite_words.specs.Reading.Lines.{without_front, without_end, first_word, after_word}
use Rattle.suite_words.specs.Words.{is_space}
use Rattle.suite_text.specs.Writing.Lines.{spaces, IsWord}
use Rattle.suite_words.proofs.FirstWords.{spaced, unspaced}

pub or_true : (b : Bool) → (b || true) ≡ true
or_true true = refl
or_true false = refl

-- no byte is a space
abbrev pub Unspaced : List ℕ → Type 0
Unspaced text = AllByRecursion (λ byte. is_space byte ≡ false) text

-- what may follow a token: nothing, or a space and more
abbrev pub Follows : List ℕ → Type 0
Follows [] = Unit {0}
Follows (byte ∷ bytes) = is_space byte ≡ true

pub front_spaces : (n : ℕ) (bs : List ℕ) → without_front (spaces n ++ bs) ≡ without_front bs
front_spaces zero bs = refl
front_spaces (suc n) bs = spaced 32 (spaces n ++ bs) refl ∙ front_spaces n bs

pub all_spaces : (bs : List ℕ) → AllByRecursion (λ byte. is_space byte ≡ true) bs → without_front bs ≡ []
all_spaces [] h = refl
all_spaces (b ∷ bs) h = spaced b bs h.0 ∙ all_spaces bs h.1

pub are_spaces : (n : ℕ) → AllByRecursion (λ byte. is_space byte ≡ true) (spaces n)
are_spaces zero = tt
are_spaces (suc n) = (refl, are_spaces n)

pub no_front : (n : ℕ) → without_front (spaces n) ≡ []
no_front n = all_spaces (spaces n) (are_spaces n)

word_front : (w rest : List ℕ) → IsWord w → without_front (w ++ rest) ≡ w ++ rest
word_front [] rest h = absurd (omega (arith, h.0))
word_front (x ∷ w) rest h = unspaced x (w ++ rest) h.1.0

word_ends : (w rest : List ℕ) → Unspaced w → Follows rest → position_or_len is_space (w ++ rest) ≡ length w
word_ends [] [] h f = refl
word_ends [] (b ∷ bs) h f = ap (λ z. cond (not z) (1 + position_or_len is_space bs) 0) f
word_ends (x ∷ w) rest h f =
    let next = ap (λ z. cond (not z) (1 + position_or_len is_space (w ++ rest)) 0) h.0 in
    let more = word_ends w rest h.1 f in
    omega (arith, next, more)

-- a token behind spaces, and before nothing or a space
module _ (n : ℕ) (w rest : List ℕ) (word : IsWord w) (f : Follows rest) where
  pub front_is : without_front (spaces n ++ (w ++ rest)) ≡ w ++ rest
  front_is = front_spaces n (w ++ rest) ∙ word_front w rest word

  pub first_is : first_word (spaces n ++ (w ++ rest)) ≡ w
  first_is = ap (before_first is_space) front_is ∙ ap (λ k. take k (w ++ rest)) (word_ends w rest word.1 f) ∙ take_at w rest _ refl

  pub after_is : after_word (spaces n ++ (w ++ rest)) ≡ drop 1 rest
  after_is =
      ap (after_first is_space) front_is ∙ ap (λ k. drop (k + 1) (w ++ rest)) (word_ends w rest word.1 f)
      ∙ sym (drop-drop 1 (length w) (w ++ rest)) ∙ ap (drop 1) (drop_at w rest _ refl)

-- no token
pub first_none : (n : ℕ) → first_word (drop 1 (spaces n)) ≡ []
first_none zero = refl
first_none (suc n) = ap (before_first is_space) (no_front n)

pub after_none : (n : ℕ) → after_word (drop 1 (spaces n)) ≡ []
after_none zero = refl
after_none (suc n) = ap (after_first is_space) (no_front n)

-- a text without spaces at its ends, and spaces behind it
pub prefix_spaces : (n : ℕ) (bs : List ℕ) → prefix_len is_space (spaces n ++ bs) ≡ n + prefix_len is_space bs
prefix_spaces zero bs = omega arith
prefix_spaces (suc n) bs = let more = prefix_spaces n bs in omega (arith, more)

spaces_end : (n : ℕ) → spaces n ++ 32 ∷ [] ≡ 32 ∷ spaces n
spaces_end zero = refl
spaces_end (suc n) = ap (λ l. 32 ∷ l) (spaces_end n)

pub reverse_spaces : (n : ℕ) → reverse (spaces n) ≡ spaces n
reverse_spaces zero = refl
reverse_spaces (suc n) = reverse-append (32 ∷ []) (spaces n) ∙ ap (λ l. l ++ 32 ∷ []) (reverse_spaces n) ∙ spaces_end n

pub length_spaces : (n : ℕ) → length (spaces n) ≡ n
length_spaces zero = refl
length_spaces (suc n) = ap suc (length_spaces n)

pub without_end_is : (text : List ℕ) (n : ℕ) → suffix_len is_space text ≡ 0 → without_end (text ++ spaces n) ≡ text
without_end_is text n back =
    let turned : reverse (text ++ spaces n) ≡ spaces n ++ reverse text = reverse-append text (spaces n) ∙ ap (λ l. l ++ reverse text) (reverse_spaces n) in
    let found : suffix_len is_space (text ++ spaces n) ≡ n + suffix_len is_space text = ap (prefix_len is_space) turned ∙ prefix_spaces n (reverse text) in
    let all : length (text ++ spaces n) ≡ length text + length (spaces n) = length-append text (spaces n) in
    let some = length_spaces n in
    let left : length (text ++ spaces n) - suffix_len is_space (text ++ spaces n) ≡ length text = omega (arith, found, all, some, back) in
    ap (λ k. take k (text ++ spaces n)) left ∙ take_at text (spaces n) _ refl

front_kept : (x : ℕ) (xs bs : List ℕ) (z : Bool) → is_space x ≡ z → prefix_len is_space (x ∷ xs) ≡ 0 → without_front (x ∷ (xs ++ bs)) ≡ x ∷ (xs ++ bs)
front_kept x xs bs true e h =
    let some = ap (λ b. cond b (1 + prefix_len is_space xs) 0) e in
    absurd (omega (arith, some, h))
front_kept x xs bs false e h = unspaced x (xs ++ bs) e

trimmed : (text : List ℕ) (n : ℕ) → prefix_len is_space text ≡ 0 → suffix_len is_space text ≡ 0 → without_end (without_front (text ++ spaces n)) ≡ text
trimmed [] n front back = ap without_end (no_front n)
trimmed (x ∷ xs) n front back = ap without_end (front_kept x xs (spaces n) (is_space x) refl front) ∙ without_end_is (x ∷ xs) n back

blank_trimmed : (n : ℕ) → without_end (without_front (drop 1 (spaces n))) ≡ []
blank_trimmed zero = refl
blank_trimmed (suc n) = ap without_end (no_front n)

-- what is left of a text behind so many spaces, or of none
pub text_is : (before : ℕ) (text : List ℕ) (n : ℕ) → (text ≡ []) ⊎ (0 < before) → prefix_len is_space text ≡ 0 → suffix_len is_space text ≡ 0
    → without_end (without_front (drop 1 (spaces before ++ (text ++ spaces n)))) ≡ text
text_is zero text n (inl none) front back = ap (λ t. without_end (without_front (drop 1 (t ++ spaces n)))) none ∙ blank_trimmed n ∙ sym none
text_is zero text n (inr some) front back = absurd (omega (arith, some))
text_is (suc before) text n apart front back = ap without_end (front_spaces before (text ++ spaces n)) ∙ trimmed text n front back

-- and it begins with a space, or is empty
pub follows_spaces : (n : ℕ) → Follows (spaces n)
follows_spaces zero = tt
follows_spaces (suc n) = refl

pub follows_text : (before : ℕ) (text : List ℕ) (n : ℕ) → (text ≡ []) ⊎ (0 < before) → Follows (spaces before ++ (text ++ spaces n))
follows_text zero text n (inl none) = subst (λ (t : List ℕ). Follows (t ++ spaces n)) (sym none) (follows_spaces n)
follows_text zero text n (inr some) = absurd (omega (arith, some))
follows_text (suc before) text n apart = refl

-- Tokens of characters, as tokens of what is left of a text.
use Rattle.std.proofs.Common.{◌≡◌, ℕ, zero, suc, ◌+◌, ◌-◌, ◌≤◌, ◌==◌, ◌++◌, ◌∷◌, [], ◌∙◌, List, Bool, true, false, cond, if◌then◌else◌, length, take, drop, refl, sym, ap, encode_utf8, arith, length-append, drop-drop}
use Rattle.std.specs.Prelude.{encode_utf8_all, codes, ◌&&◌, Option, Some, None}
use Rattle.std.specs.Char.{is_whitespace, len_utf8}
use Rattle.std.specs.Str.{chars, bytes_eq, IsUtf8, IsCharBoundary, skip_leading_whitespace, trim_start}
use Rattle.std.proofs.Math.Seq.{take-append-add, drop-append-add}
use Rattle.std.proofs.lemmas.Str.{length-encode, encodes-chars, chars-encodes, scalars-chars, chars_past_char, IsUtf8-past_char, IsCharBoundary-from_drop}
use Rattle.std.proofs.Math.Utf8.{scalar, scalars}
use Rattle.tag_expr.specs.Tokens.{is_word_character, word_len, front_token, front_len, tokens_from, placed, Token, left_paren, right_paren, bang, ampersand, bar, any_call, none_call, word, word_or_call, token_len, sign_of, sign_or_word}
use Rattle.tag_expr.specs.TokenTexts.{word_size, tokens_left}

-- the characters that the word has, and its bytes
pub word_take : (cs : List ℕ) → take (word_size cs) (encode_utf8_all cs) ≡ encode_utf8_all (take (word_len cs) cs)
word_take [] = refl
word_take (c ∷ cs) =
    let past : take (len_utf8 c + word_size cs) (encode_utf8 c ++ encode_utf8_all cs) ≡ encode_utf8 c ++ take (word_size cs) (encode_utf8_all cs) =
    ap (λ n. take (n + word_size cs) (encode_utf8 c ++ encode_utf8_all cs)) (sym (length-encode c)) ∙ take-append-add (encode_utf8 c) (encode_utf8_all cs) (word_size cs) in
    let one : 1 + word_len cs ≡ suc (word_len cs) = omega arith in
    elim (is_word_character c) as (λ b. take (if b then len_utf8 c + word_size cs else 0) (encode_utf8_all (c ∷ cs)) ≡ encode_utf8_all (take (cond b (1 + word_len cs) 0) (c ∷ cs))) [
      | true ↦ past ∙ ap (λ l. encode_utf8 c ++ l) (word_take cs) ∙ ap (λ n. encode_utf8_all (take n (c ∷ cs))) (sym one)
      | false ↦ refl
    ]

pub word_drop : (cs : List ℕ) → drop (word_size cs) (encode_utf8_all cs) ≡ encode_utf8_all (drop (word_len cs) cs)
word_drop [] = refl
word_drop (c ∷ cs) =
    let past : drop (len_utf8 c + word_size cs) (encode_utf8 c ++ encode_utf8_all cs) ≡ drop (word_size cs) (encode_utf8_all cs) =
    ap (λ n. drop (n + word_size cs) (encode_utf8 c ++ encode_utf8_all cs)) (sym (length-encode c)) ∙ drop-append-add (encode_utf8 c) (encode_utf8_all cs) (word_size cs) in
    let one : 1 + word_len cs ≡ suc (word_len cs) = omega arith in
    elim (is_word_character c) as (λ b. drop (if b then len_utf8 c + word_size cs else 0) (encode_utf8_all (c ∷ cs)) ≡ encode_utf8_all (drop (cond b (1 + word_len cs) 0) (c ∷ cs))) [
      | true ↦ past ∙ word_drop cs ∙ ap (λ n. encode_utf8_all (drop n (c ∷ cs))) (sym one)
      | false ↦ refl
    ]

pub bytes_of : (c : ℕ) (cs : List ℕ) → length (encode_utf8_all (c ∷ cs)) ≡ len_utf8 c + length (encode_utf8_all cs)
bytes_of c cs = length-append (encode_utf8 c) (encode_utf8_all cs) ∙ ap (λ n. n + length (encode_utf8_all cs)) (length-encode c)

-- white space at the front has no token
pub tokens_spaces : (end : ℕ) (cs : List ℕ) → length (encode_utf8_all cs) ≤ end
    → tokens_from 0 (end - length (encode_utf8_all cs)) cs ≡ tokens_from 0 (end - length (encode_utf8_all (skip_leading_whitespace cs))) (skip_leading_whitespace cs)
tokens_spaces end [] fits = refl
tokens_spaces end (c ∷ cs) fits =
    let at : end - length (encode_utf8_all (c ∷ cs)) + len_utf8 c ≡ end - length (encode_utf8_all cs) = omega (arith, bytes_of c cs) in
    let within : length (encode_utf8_all cs) ≤ end = omega (arith, bytes_of c cs) in
    let token = placed (end - length (encode_utf8_all (c ∷ cs))) (front_token (c ∷ cs)) ∷ tokens_from (front_len (c ∷ cs) - 1) (end - length (encode_utf8_all (c ∷ cs)) + len_utf8 c) cs in
    let skip = skip_leading_whitespace in
    let turn : (b : Bool) → is_whitespace c ≡ b → tokens_from 0 (end - length (encode_utf8_all (c ∷ cs))) (c ∷ cs) ≡ tokens_from 0 (end - length (encode_utf8_all (cond b (skip cs) (c ∷ cs)))) (cond b (skip cs) (c ∷ cs)) =
    λ b. elim b as (λ b. is_whitespace c ≡ b → tokens_from 0 (end - length (encode_utf8_all (c ∷ cs))) (c ∷ cs) ≡ tokens_from 0 (end - length (encode_utf8_all (cond b (skip cs) (c ∷ cs)))) (cond b (skip cs) (c ∷ cs))) [
      | true ↦ λ h. ap (λ b. if b then tokens_from 0 (end - length (encode_utf8_all (c ∷ cs)) + len_utf8 c) cs else token) h ∙ ap (λ n. tokens_from 0 n cs) at ∙ tokens_spaces end cs within
      | false ↦ λ h. refl
    ] in
    turn (is_whitespace c) refl

-- characters that belong to the token before
pub tokens_skipped : (end n : ℕ) (cs : List ℕ) → length (encode_utf8_all cs) ≤ end
    → tokens_from n (end - length (encode_utf8_all cs)) cs ≡ tokens_from 0 (end - length (encode_utf8_all (drop n cs))) (drop n cs)
tokens_skipped end zero cs fits = refl
tokens_skipped end (suc n) [] fits = refl
tokens_skipped end (suc n) (c ∷ cs) fits =
    let at : end - length (encode_utf8_all (c ∷ cs)) + len_utf8 c ≡ end - length (encode_utf8_all cs) = omega (arith, bytes_of c cs) in
    ap (λ m. tokens_from n m cs) at ∙ tokens_skipped end n cs (omega (arith, bytes_of c cs))

and_right : (a b : Bool) → (a && b) ≡ true → b ≡ true
and_right true b h = h
and_right false b h = cc

pub scalars_drop : (n : ℕ) (cs : List ℕ) → scalars cs ≡ true → scalars (drop n cs) ≡ true
scalars_drop zero cs h = h
scalars_drop (suc n) [] h = h
scalars_drop (suc n) (c ∷ cs) h = scalars_drop n cs (and_right (scalar c) (scalars cs) h)

size_within : (cs : List ℕ) → word_size cs ≤ length (encode_utf8_all cs)
size_within [] = omega arith
size_within (c ∷ cs) = elim (is_word_character c) as (λ b. (if b then len_utf8 c + word_size cs else 0) ≤ length (encode_utf8_all (c ∷ cs))) [
  | true ↦ omega (arith, bytes_of c cs, size_within cs)
  | false ↦ omega arith
]

-- a text that is cut behind the word at its front
pub record IsCut (bs : List ℕ) (n : ℕ) : Type 0 where
  pub boundary : IsCharBoundary bs n
  pub front : take n bs ≡ encode_utf8_all (take (word_len (chars bs)) (chars bs))
  pub rest : drop n bs ≡ encode_utf8_all (drop (word_len (chars bs)) (chars bs))
  pub back : chars (drop n bs) ≡ drop (word_len (chars bs)) (chars bs)

pub cut : (bs : List ℕ) (n : ℕ) → IsUtf8 bs → n ≡ word_size (chars bs) → IsCut bs n
cut bs n text is =
    let cs = chars bs in
    let same = encodes-chars bs text in
    let rest : drop n bs ≡ encode_utf8_all (drop (word_len cs) cs) = ap (λ k. drop k bs) is ∙ ap (drop (word_size cs)) (sym same) ∙ word_drop cs in
    let read : IsUtf8 (drop n bs) = (drop (word_len cs) cs, (scalars_drop (word_len cs) cs (scalars-chars bs text), sym rest)) in
    let within : n ≤ length bs = omega (arith, is, size_within cs, ap length same) in
    record {
      boundary = IsCharBoundary-from_drop bs n within read;
      front = ap (λ k. take k bs) is ∙ ap (take (word_size cs)) (sym same) ∙ word_take cs;
      rest = rest;
      back = ap chars rest ∙ chars-encodes (drop (word_len cs) cs) (scalars_drop (word_len cs) cs (scalars-chars bs text));
    }

-- the word at a text's front, and what it is with () behind it or without
chosen : Bool → Bool → Bool → List ℕ → Token
chosen called a b text = if called && a then any_call else (if called && b then none_call else word text)

pub any_found : (text : List ℕ) (called : Bool) → called ≡ true → bytes_eq text (codes "any") ≡ true → any_call ≡ word_or_call text called
unfolding chosen
any_found text called k a = sym (ap (λ b. chosen b (bytes_eq text (codes "any")) (bytes_eq text (codes "none")) text) k ∙ ap (λ b. chosen true b (bytes_eq text (codes "none")) text) a)

pub none_found : (text : List ℕ) (called : Bool) → called ≡ true → bytes_eq text (codes "any") ≡ false → bytes_eq text (codes "none") ≡ true → none_call ≡ word_or_call text called
unfolding chosen
none_found text called k a n =
    sym (ap (λ b. chosen b (bytes_eq text (codes "any")) (bytes_eq text (codes "none")) text) k ∙ ap (λ b. chosen true b (bytes_eq text (codes "none")) text) a ∙ ap (λ b. chosen true false b text) n)

pub word_called : (text : List ℕ) (called : Bool) → bytes_eq text (codes "any") ≡ false → bytes_eq text (codes "none") ≡ false → word text ≡ word_or_call text called
unfolding chosen
word_called text called a n =
    let each : (k : Bool) → chosen k false false text ≡ word text = λ k. elim k as (λ k. chosen k false false text ≡ word text) [ true ↦ refl | false ↦ refl ] in
    sym (ap (λ b. chosen called b (bytes_eq text (codes "none")) text) a ∙ ap (λ b. chosen called false b text) n ∙ each called)

pub word_alone : (text : List ℕ) (called : Bool) → called ≡ false → word text ≡ word_or_call text called
unfolding chosen
word_alone text called k = sym (ap (λ b. chosen b (bytes_eq text (codes "any")) (bytes_eq text (codes "none")) text) k)

pub drop_more : (n : ℕ) (cs : List ℕ) → drop 2 (drop n cs) ≡ drop (n + 2) cs
drop_more n cs = drop-drop 2 n cs

-- a sign is one character long
len_or_one : Option Token → ℕ → ℕ
len_or_one None n = 1
len_or_one (Some token) n = token_len token n

pub sign_len_by : (a b c d e : Bool) (token : Token) (n : ℕ)
    → (if a then Some left_paren else (if b then Some right_paren else (if c then Some bang else (if d then Some ampersand else (if e then Some bar else None))))) ≡ Some token → token_len token n ≡ 1
unfolding len_or_one
sign_len_by true b c d e token n h = ap (λ o. len_or_one o n) (sym h)
sign_len_by false true c d e token n h = ap (λ o. len_or_one o n) (sym h)
sign_len_by false false true d e token n h = ap (λ o. len_or_one o n) (sym h)
sign_len_by false false false true e token n h = ap (λ o. len_or_one o n) (sym h)
sign_len_by false false false false true token n h = ap (λ o. len_or_one o n) (sym h)
sign_len_by false false false false false token n h = ap (λ o. len_or_one o n) (sym h)

-- what follows a sign
pub after_sign : (bs rest : List ℕ) (c : ℕ) (sign : Token) → IsUtf8 bs → bs ≡ encode_utf8 c ++ rest → Some sign ≡ sign_of c
    → (sign ≡ front_token (chars bs)) × (rest ≡ encode_utf8_all (drop (front_len (chars bs)) (chars bs)))
after_sign bs rest c sign text is which =
    let all : chars bs ≡ c ∷ chars rest = chars_past_char bs rest c text is in
    let found : front_token (c ∷ chars rest) ≡ sign = ap (λ o. sign_or_word o (c ∷ chars rest)) (sym which) in
    let one : front_len (c ∷ chars rest) ≡ 1 =
    ap (λ t. token_len t (word_len (c ∷ chars rest))) found ∙ sign_len_by (c == 40) (c == 41) (c == 33) (c == 38) (c == 124) sign (word_len (c ∷ chars rest)) (sym which) in (
      sym (ap front_token all ∙ found),
      sym (ap (λ cs. encode_utf8_all (drop (front_len cs) cs)) all ∙ ap (λ n. encode_utf8_all (drop n (c ∷ chars rest))) one ∙ encodes-chars rest (IsUtf8-past_char bs rest c text is)),
    )

scalars_skip : (cs : List ℕ) → scalars cs ≡ true → scalars (skip_leading_whitespace cs) ≡ true
scalars_skip [] h = h
scalars_skip (c ∷ cs) h = elim (is_whitespace c) as (λ b. scalars (cond b (skip_leading_whitespace cs) (c ∷ cs)) ≡ true) [
  | true ↦ scalars_skip cs (and_right (scalar c) (scalars cs) h)
  | false ↦ h
]

skip_within : (cs : List ℕ) → length (encode_utf8_all (skip_leading_whitespace cs)) ≤ length (encode_utf8_all cs)
skip_within [] = omega arith
skip_within (c ∷ cs) = elim (is_whitespace c) as (λ b. length (encode_utf8_all (cond b (skip_leading_whitespace cs) (c ∷ cs))) ≤ length (encode_utf8_all (c ∷ cs))) [
  | true ↦ omega (arith, bytes_of c cs, skip_within cs)
  | false ↦ omega arith
]

-- a text, and what is left of it without the white space at its front
pub record IsTrimmed (end : ℕ) (bs ts : List ℕ) : Type 0 where
  pub same : tokens_left end bs ≡ tokens_left end ts
  pub within : length ts ≤ length bs
  pub read : IsUtf8 ts
  pub front : chars ts ≡ skip_leading_whitespace (chars bs)

pub trimmed : (end : ℕ) (bs ts : List ℕ) → IsUtf8 bs → length bs ≤ end → ts ≡ trim_start bs → IsTrimmed end bs ts
unfolding trim_start
trimmed end bs ts text fits is =
    let cs = chars bs in
    let all = encodes-chars bs text in
    let skip = scalars_skip cs (scalars-chars bs text) in
    let front : chars ts ≡ skip_leading_whitespace cs = ap chars is ∙ chars-encodes (skip_leading_whitespace cs) skip in
    let fits_all : length (encode_utf8_all cs) ≤ end = omega (arith, ap length all, fits) in
    record {
      same = ap (λ n. tokens_from 0 (end - n) cs) (sym (ap length all)) ∙ tokens_spaces end cs fits_all ∙ ap (λ n. tokens_from 0 (end - n) (skip_leading_whitespace cs)) (sym (ap length is)) ∙ ap (λ l. tokens_from 0 (end - length ts) l) (sym front);
      within = omega (arith, ap length is, ap length all, skip_within cs);
      read = (skip_leading_whitespace cs, (skip, sym is));
      front = front;
    }

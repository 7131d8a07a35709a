-- The first token of what is left of a text, and the others.
use Rattle.std.proofs.Common.{◌≡◌, ℕ, zero, suc, ◌+◌, ◌-◌, ◌≤◌, ◌<◌, ◌==◌, ◌∷◌, [], ◌∙◌, List, Bool, true, false, cond, if◌then◌else◌, length, take, drop, refl, sym, ap, arith}
use Rattle.std.specs.Prelude.{encode_utf8_all, ◌||◌, ◌&&◌, not, codes, Option, Some, None}
use Rattle.std.specs.Char.{is_whitespace, len_utf8}
use Rattle.std.specs.Str.{chars, bytes_eq, skip_leading_whitespace}
use Rattle.std.proofs.lemmas.Str.{chars-nil, chars-encodes, encodes-chars, scalars-chars, len_utf8_bounds}
use Rattle.tag_expr.specs.Tags.{is_sign}
use Rattle.tag_expr.specs.Tokens.{Token, left_paren, right_paren, bang, ampersand, bar, any_call, none_call, word, is_word_character, word_len, is_called, word_or_call, token_len, sign_of, sign_or_word, front_token, front_len, tokens_from, placed}
use Rattle.tag_expr.specs.TokenTexts.{tokens_left}
use Rattle.tag_expr.proofs.TokenTexts.{IsTrimmed, tokens_skipped, sign_len_by, scalars_drop, bytes_of}

pub no_tokens : (end : ℕ) (ts : List ℕ) → length ts ≡ 0 → tokens_left end ts ≡ []
no_tokens end [] h = ap (tokens_from 0 (end - 0)) chars-nil
no_tokens end (t ∷ ts) h = absurd (omega arith)

no_sign_by : (a b c d e : Bool)
    → (if a then Some left_paren else (if b then Some right_paren else (if c then Some bang else (if d then Some ampersand else (if e then Some bar else None))))) ≡ None → (a || b || c || d || e) ≡ false
no_sign_by true b c d e h = cc
no_sign_by false true c d e h = cc
no_sign_by false false true d e h = cc
no_sign_by false false false true e h = cc
no_sign_by false false false false true h = cc
no_sign_by false false false false false h = refl

word_long : (a b : Bool) (text : List ℕ) (n : ℕ) → n ≤ token_len (if a then any_call else (if b then none_call else word text)) n
word_long true b text n = omega arith
word_long false true text n = omega arith
word_long false false text n = omega arith

word_long_here : (text : List ℕ) (called : Bool) (n : ℕ) → n ≤ token_len (word_or_call text called) n
word_long_here text called n = word_long (called && bytes_eq text (codes "any")) (called && bytes_eq text (codes "none")) text n

word_some : (c : ℕ) (cs : List ℕ) → is_whitespace c ≡ false → sign_of c ≡ None → 1 ≤ word_len (c ∷ cs)
word_some c cs white none =
    let belongs : is_word_character c ≡ true = ap (λ b. not (b || is_sign c)) white ∙ ap not (no_sign_by (c == 40) (c == 41) (c == 33) (c == 38) (c == 124) none) in
    let all : word_len (c ∷ cs) ≡ 1 + word_len cs = ap (λ b. cond b (1 + word_len cs) 0) belongs in
    omega (arith, all)

-- a token that is no white space has a character
front_some : (c : ℕ) (cs : List ℕ) (sign : Option Token) → sign_of c ≡ sign → is_whitespace c ≡ false → 1 ≤ token_len (sign_or_word sign (c ∷ cs)) (word_len (c ∷ cs))
front_some c cs None none white = omega (arith, word_some c cs white none, word_long_here (encode_utf8_all (take (word_len (c ∷ cs)) (c ∷ cs))) (is_called (drop (word_len (c ∷ cs)) (c ∷ cs))) (word_len (c ∷ cs)))
front_some c cs (Some sign) which white = omega (arith, sign_len_by (c == 40) (c == 41) (c == 33) (c == 38) (c == 124) sign (word_len (c ∷ cs)) which)

not_white : (xs : List ℕ) (c : ℕ) (cs : List ℕ) → skip_leading_whitespace xs ≡ c ∷ cs → is_whitespace c ≡ false
not_white [] c cs h = cc
not_white (x ∷ xs) c cs h =
    let turn : (b : Bool) → is_whitespace x ≡ b → cond b (skip_leading_whitespace xs) (x ∷ xs) ≡ c ∷ cs → is_whitespace c ≡ false =
    λ b. elim b as (λ b. is_whitespace x ≡ b → cond b (skip_leading_whitespace xs) (x ∷ xs) ≡ c ∷ cs → is_whitespace c ≡ false) [
      | true ↦ λ w k. not_white xs c cs k
      | false ↦ λ w k. let same : x ≡ c = cc in ap is_whitespace (sym same) ∙ w
    ] in
    turn (is_whitespace x) refl h

drop_within : (n : ℕ) (cs : List ℕ) → length (encode_utf8_all (drop n cs)) ≤ length (encode_utf8_all cs)
drop_within zero cs = omega arith
drop_within (suc n) [] = omega arith
drop_within (suc n) (c ∷ cs) = omega (arith, bytes_of c cs, drop_within n cs)

-- the first token of characters, and those behind it
turn_by : (end c : ℕ) (cs : List ℕ) (n : ℕ) → front_len (c ∷ cs) ≡ suc n → is_whitespace c ≡ false → length (encode_utf8_all (c ∷ cs)) ≤ end
    → tokens_from 0 (end - length (encode_utf8_all (c ∷ cs))) (c ∷ cs)
    ≡ placed (end - length (encode_utf8_all (c ∷ cs))) (front_token (c ∷ cs)) ∷ tokens_from 0 (end - length (encode_utf8_all (drop (suc n) (c ∷ cs)))) (drop (suc n) (c ∷ cs))
turn_by end c cs n some white fits =
    let at = end - length (encode_utf8_all (c ∷ cs)) in
    let token = placed at (front_token (c ∷ cs)) in
    let less : front_len (c ∷ cs) - 1 ≡ n = omega (arith, some) in
    ap (λ b. if b then tokens_from 0 (at + len_utf8 c) cs else token ∷ tokens_from (front_len (c ∷ cs) - 1) (at + len_utf8 c) cs) white
    ∙ ap (λ k. token ∷ tokens_from k (at + len_utf8 c) cs) less
    ∙ ap (λ l. token ∷ l) (tokens_skipped end (suc n) (c ∷ cs) fits)

turn_of : (end : ℕ) (xs cs : List ℕ) → skip_leading_whitespace xs ≡ cs → 0 < length (encode_utf8_all cs) → length (encode_utf8_all cs) ≤ end
    → (tokens_from 0 (end - length (encode_utf8_all cs)) cs
    ≡ placed (end - length (encode_utf8_all cs)) (front_token cs) ∷ tokens_from 0 (end - length (encode_utf8_all (drop (front_len cs) cs))) (drop (front_len cs) cs))
    × (length (encode_utf8_all (drop (front_len cs) cs)) < length (encode_utf8_all cs))
turn_of end xs [] skip some fits = absurd (omega (arith, some))
turn_of end xs (c ∷ cs) skip some fits =
    let white = not_white xs c cs skip in
    let n = front_len (c ∷ cs) - 1 in
    let front : front_len (c ∷ cs) ≡ suc n = omega (arith, front_some c cs (sign_of c) refl white) in (
      turn_by end c cs n front white fits ∙ ap (λ k. placed (end - length (encode_utf8_all (c ∷ cs))) (front_token (c ∷ cs)) ∷ tokens_from 0 (end - length (encode_utf8_all (drop k (c ∷ cs)))) (drop k (c ∷ cs))) (sym front),
      omega (arith, ap (λ k. length (encode_utf8_all (drop k (c ∷ cs)))) front, drop_within n cs, bytes_of c cs, (len_utf8_bounds c).0),
    )

pub turn : (end : ℕ) (bs ts rest : List ℕ) (token : Token) → IsTrimmed end bs ts → length bs ≤ end → 0 < length ts
    → token ≡ front_token (chars ts) → rest ≡ encode_utf8_all (drop (front_len (chars ts)) (chars ts))
    → (tokens_left end bs ≡ placed (end - length ts) token ∷ tokens_left end rest) × (length rest < length bs)
turn end bs ts rest token trim fits some front is =
    let cs = chars ts in
    let after = drop (front_len cs) cs in
    let all = encodes-chars ts trim.read in
    let read : chars rest ≡ after = ap chars is ∙ chars-encodes after (scalars_drop (front_len cs) cs (scalars-chars ts trim.read)) in
    let step = turn_of end (chars bs) cs (sym trim.front) (omega (arith, some, ap length all)) (omega (arith, fits, trim.within, ap length all)) in (
      trim.same ∙ ap (λ n. tokens_from 0 (end - n) cs) (sym (ap length all)) ∙ step.0
          ∙ ap (λ n. placed (end - n) (front_token cs) ∷ tokens_from 0 (end - length (encode_utf8_all after)) after) (ap length all)
          ∙ ap (λ t. placed (end - length ts) t ∷ tokens_from 0 (end - length (encode_utf8_all after)) after) (sym front)
          ∙ ap (λ n. placed (end - length ts) token ∷ tokens_from 0 (end - n) after) (sym (ap length is))
          ∙ ap (λ l. placed (end - length ts) token ∷ tokens_from 0 (end - length rest) l) (sym read),
      omega (arith, ap length is, ap length all, trim.within, step.1),
    )

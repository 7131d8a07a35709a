-- The tokens of a text.
use Rattle.std.specs.Prelude.{ℕ, ◌+◌, ◌-◌, ◌==◌, ◌||◌, ◌&&◌, not, codes, zero, suc, Bool, false, List, [], ◌∷◌, take, drop, if◌then◌else◌, Option, Some, None, encode_utf8_all}
use Rattle.std.specs.Char.{is_whitespace, len_utf8}
use Rattle.std.specs.List.{prefix_len}
use Rattle.std.specs.Str.{chars, bytes_eq}
use Rattle.tag_expr.specs.Tags.{is_sign}

-- the signs, the calls any() and none(), and words
pub data Token : Type 0 where
  left_paren : Token
  right_paren : Token
  bang : Token
  ampersand : Token
  bar : Token
  any_call : Token
  none_call : Token
  word : List ℕ → Token

-- a token and its place in the text, in bytes
pub data PlacedToken : Type 0 where
  placed : ℕ → Token → PlacedToken

abbrev pub token_of : PlacedToken → Token
token_of (placed place token) = token

-- the sign that a character is
abbrev pub sign_of : ℕ → Option Token
sign_of c =
    if c == 40 then Some left_paren
    else (if c == 41 then Some right_paren
    else (if c == 33 then Some bang
    else (if c == 38 then Some ampersand
    else (if c == 124 then Some bar else None))))

-- a character of a word: any but white space and the signs
abbrev pub is_word_character : ℕ → Bool
is_word_character c = not (is_whitespace c || is_sign c)

-- how many such characters stand at the front
abbrev pub word_len : List ℕ → ℕ
word_len cs = prefix_len is_word_character cs

-- a word, which is a call where it is `any` or `none` and () follows
abbrev pub word_or_call : List ℕ → Bool → Token
word_or_call text called =
    if called && bytes_eq text (codes "any") then any_call
    else (if called && bytes_eq text (codes "none") then none_call else word text)

-- whether () stands at the front
abbrev pub is_called : List ℕ → Bool
is_called (a ∷ b ∷ cs) = a == 40 && b == 41
is_called cs = false

-- the token at the front, where no white space stands there
abbrev pub sign_or_word : Option Token → List ℕ → Token
sign_or_word (Some sign) cs = sign
sign_or_word None cs = word_or_call (encode_utf8_all (take (word_len cs) cs)) (is_called (drop (word_len cs) cs))

abbrev pub front_token : List ℕ → Token
front_token [] = word []
front_token (c ∷ cs) = sign_or_word (sign_of c) (c ∷ cs)

-- how many characters a token has, where so many make up its word
abbrev pub token_len : Token → ℕ → ℕ
token_len (word text) n = n
token_len any_call n = n + 2
token_len none_call n = n + 2
token_len sign n = 1

abbrev pub front_len : List ℕ → ℕ
front_len cs = token_len (front_token cs) (word_len cs)

-- the tokens of characters of which the first stands at `at`; so many at the front belong to the token before
abbrev pub tokens_from : ℕ → ℕ → List ℕ → List PlacedToken
tokens_from skipped at [] = []
tokens_from (suc skipped) at (c ∷ cs) = tokens_from skipped (at + len_utf8 c) cs
tokens_from zero at (c ∷ cs) =
    if is_whitespace c then tokens_from 0 (at + len_utf8 c) cs
    else placed at (front_token (c ∷ cs)) ∷ tokens_from (front_len (c ∷ cs) - 1) (at + len_utf8 c) cs

-- the tokens of a text
abbrev pub tokens : List ℕ → List PlacedToken
tokens text = tokens_from 0 0 (chars text)

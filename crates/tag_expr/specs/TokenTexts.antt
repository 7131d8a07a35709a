-- The tokens that are left of a text.
use Rattle.std.specs.Prelude.{ℕ, ◌+◌, ◌-◌, List, [], ◌∷◌, length, if◌then◌else◌}
use Rattle.std.specs.Char.{len_utf8}
use Rattle.std.specs.Str.{chars}
use Rattle.tag_expr.specs.declared.token.Token.{Token}
use Rattle.tag_expr.specs.declared.token.Token.TheVariants as read
use Rattle.tag_expr.specs.Tokens.{PlacedToken, left_paren, right_paren, bang, ampersand, bar, any_call, none_call, word, is_word_character, tokens_from}
use Rattle.tag_expr.specs.Tokens as written

-- a token, without where its word lies in memory
abbrev pub token_read : Token → written.Token
token_read read.LeftParen = left_paren
token_read read.RightParen = right_paren
token_read read.Bang = bang
token_read read.Ampersand = ampersand
token_read read.Bar = bar
token_read read.AnyCall = any_call
token_read read.NoneCall = none_call
token_read (read.Word text) = word text.now

-- how many bytes a word has, and 0 for any other token
abbrev pub word_length : written.Token → ℕ
word_length (word text) = length text
word_length token = 0

-- how many bytes the word at the front has
abbrev pub word_size : List ℕ → ℕ
word_size [] = 0
word_size (c ∷ cs) = if is_word_character c then len_utf8 c + word_size cs else 0

-- the tokens of what is left of a text that ends at `end`
abbrev pub tokens_left : ℕ → List ℕ → List PlacedToken
tokens_left end left = tokens_from 0 (end - length left) (chars left)

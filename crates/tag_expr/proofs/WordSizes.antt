-- The word at the front of a text, in bytes and in characters.
use Rattle.std.proofs.Common.{◌≡◌, ℕ, ◌+◌, ◌++◌, ◌∷◌, [], ◌∙◌, List, true, false, if◌then◌else◌, length, ap, encode_utf8, arith}
use Rattle.std.specs.Char.{len_utf8}
use Rattle.std.specs.Str.{chars, IsUtf8}
use Rattle.std.proofs.lemmas.Str.{chars_past_char, chars-nil}
use Rattle.tag_expr.specs.Tokens.{is_word_character}
use Rattle.tag_expr.specs.TokenTexts.{word_size}

pub word_size_next : (bs rest : List ℕ) (c : ℕ) → IsUtf8 bs → bs ≡ encode_utf8 c ++ rest → is_word_character c ≡ true → word_size (chars bs) ≡ len_utf8 c + word_size (chars rest)
word_size_next bs rest c text is belongs =
    ap word_size (chars_past_char bs rest c text is) ∙ ap (λ b. if b then len_utf8 c + word_size (chars rest) else 0) belongs

pub word_size_stop : (bs rest : List ℕ) (c : ℕ) → IsUtf8 bs → bs ≡ encode_utf8 c ++ rest → is_word_character c ≡ false → word_size (chars bs) ≡ 0
word_size_stop bs rest c text is stop =
    ap word_size (chars_past_char bs rest c text is) ∙ ap (λ b. if b then len_utf8 c + word_size (chars rest) else 0) stop

pub word_size_end : (bs : List ℕ) → length bs ≡ 0 → word_size (chars bs) ≡ 0
word_size_end [] h = ap word_size chars-nil
word_size_end (b ∷ bs) h = absurd (omega arith)

-- The first bad character of a text is looked for character by character.
use Rattle.std.proofs.Common.{◌≡◌, ℕ, ◌+◌, ◌++◌, ◌∷◌, [], ◌∙◌, List, true, false, if◌then◌else◌, length, ap, Some, None, encode_utf8, arith}
use Rattle.std.specs.Char.{len_utf8}
use Rattle.std.specs.Str.{chars, IsUtf8}
use Rattle.std.proofs.lemmas.Str.{chars_past_char, chars-nil}
use Rattle.tag_expr.specs.Tags.{is_bad, first_bad}

pub first_bad_found : (bs rest : List ℕ) (c at : ℕ) → IsUtf8 bs → bs ≡ encode_utf8 c ++ rest → is_bad c ≡ true → first_bad at (chars bs) ≡ Some at
first_bad_found bs rest c at text is bad =
    ap (first_bad at) (chars_past_char bs rest c text is) ∙ ap (λ b. if b then Some at else first_bad (at + len_utf8 c) (chars rest)) bad

pub first_bad_next : (bs rest : List ℕ) (c at : ℕ) → IsUtf8 bs → bs ≡ encode_utf8 c ++ rest → is_bad c ≡ false → first_bad at (chars bs) ≡ first_bad (at + len_utf8 c) (chars rest)
first_bad_next bs rest c at text is good =
    ap (first_bad at) (chars_past_char bs rest c text is) ∙ ap (λ b. if b then Some at else first_bad (at + len_utf8 c) (chars rest)) good

pub first_bad_end : (bs : List ℕ) (at : ℕ) → length bs ≡ 0 → first_bad at (chars bs) ≡ None
first_bad_end [] at h = ap (first_bad at) chars-nil
first_bad_end (b ∷ bs) at h = absurd (omega arith)

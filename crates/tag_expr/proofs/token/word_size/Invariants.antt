-- The loop has counted the bytes of the characters that it has passed.
use Rattle.std.proofs.Common.{◌≡◌, ◌+◌, length}
use Rattle.std.specs.Str.{chars, IsUtf8}
use Rattle.std.specs.Str.Iter.{chars_rest}
use Rattle.tag_expr.specs.TokenTexts.{word_size}
use Rattle.tag_expr.proofs.token.word_size.Given as goal

abbrev pub invariant-loop-c : goal.invariant-loop-c
invariant-loop-c l =
    (word_size (chars l.text) ≡ l.size + word_size (chars (chars_rest l.left)))
    × IsUtf8 (chars_rest l.left)
    × (l.size + length (chars_rest l.left) ≡ length l.text)

abbrev pub decreases-loop-c : goal.decreases-loop-c
decreases-loop-c l = length (chars_rest l.left)

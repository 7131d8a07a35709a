-- The loop has passed good characters alone, and stands at the place of what is left.
use Rattle.std.proofs.Common.{◌≡◌, ◌+◌, length}
use Rattle.std.specs.Str.{chars, IsUtf8}
use Rattle.std.specs.Str.Iter.{chars_rest}
use Rattle.tag_expr.specs.Tags.{first_bad}
use Rattle.tag_expr.proofs.characters.first_bad.Given as goal

abbrev pub invariant-loop-c : goal.invariant-loop-c
invariant-loop-c l =
    (first_bad l.fn.from (chars l.text) ≡ first_bad l.place (chars (chars_rest l.left)))
    × IsUtf8 (chars_rest l.left)
    × (l.place + length (chars_rest l.left) ≡ l.fn.from + length l.text)

abbrev pub decreases-loop-c : goal.decreases-loop-c
decreases-loop-c l = length (chars_rest l.left)

-- What is left has the same text between its spaces.
use Rattle.std.proofs.Common.{◌≡◌, length}
use denote.Shadow.{shadow}
use denote.Text.{Utf8}
use Rattle.suite_words.specs.Reading.Lines.{without_front}
use Rattle.suite_words.proofs.suite.lines.without_front.Given as goal

abbrev pub invariant-loop-shorter : goal.invariant-loop-shorter
invariant-loop-shorter l = (without_front l.left ≡ without_front l.text) × shadow (Utf8 l.left)

abbrev pub decreases-loop-shorter : goal.decreases-loop-shorter
decreases-loop-shorter l = length l.left

-- What is left has the same text between its blanks.
use Rattle.std.proofs.Common.{◌≡◌, length}
use denote.Shadow.{shadow}
use denote.Text.{Utf8}
use Rattle.config_params.specs.Blanks.{without_end}
use Rattle.config_params.proofs.blanks.without_end.Given as goal

abbrev pub invariant-loop-shorter : goal.invariant-loop-shorter
invariant-loop-shorter l = (without_end l.blanks l.left ≡ without_end l.blanks l.text) × shadow (Utf8 l.left)

abbrev pub decreases-loop-shorter : goal.decreases-loop-shorter
decreases-loop-shorter l = length l.left

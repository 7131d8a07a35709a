-- The lines so far say nothing, and those that are left give what all give, however many nodes there may be.
use Rattle.std.proofs.Common.{◌≡◌, ℕ, ◌+◌, List, length}
use Rattle.std.specs.Iterator.{AlwaysYields}
use Rattle.std.specs.Str.Iter.{lines_steps}
use Rattle.std.specs.Str.Lines.{lines}
use Rattle.suite_text.specs.Reading.Judged.{MayRunOut}
use Rattle.suite_text.specs.Reading.Parts.{no_lines}
use Rattle.suite_text.specs.Suites.{suite_from}
use Rattle.suite_text.proofs.suite.first_line.judge_first.Given as goal

abbrev pub invariant-loop-line : goal.invariant-loop-line
invariant-loop-line l =
    (goal.iterator-loop-line).can_next l.line-iterator ×
    (goal.iterator-loop-line).is_finite l.line-iterator ×
    ((ys : List (List ℕ)) × AlwaysYields lines_steps (λ x. x.now) l.line-iterator ys × ((limit : ℕ) → suite_from l.number (no_lines limit) ys ≡ suite_from 1 (no_lines limit) (lines l.text))
    × ((limit : ℕ) → MayRunOut l.number (no_lines limit) ys → MayRunOut 1 (no_lines limit) (lines l.text)) × (l.number + length ys ≡ 1 + length (lines l.text)))

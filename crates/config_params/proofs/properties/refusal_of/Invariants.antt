-- The lines that are left, from this number on, have the fault that all have.
use Rattle.std.proofs.Common.{◌≡◌, ℕ, ◌+◌, List, length}
use Rattle.std.specs.Iterator.{AlwaysYields}
use Rattle.std.specs.Str.Iter.{lines_steps}
use Rattle.std.specs.Str.Lines.{lines}
use Rattle.config_params.specs.Properties.{fault_from, refusal_of}
use Rattle.config_params.proofs.properties.refusal_of.Given as goal

abbrev pub invariant-loop-line : goal.invariant-loop-line
invariant-loop-line l =
    (goal.iterator-loop-line).can_next l.line-iterator ×
    (goal.iterator-loop-line).is_finite l.line-iterator ×
    ((ys : List (List ℕ)) × AlwaysYields lines_steps (λ x. x.now) l.line-iterator ys × (fault_from l.number ys ≡ refusal_of l.text) × (l.number + length ys ≡ 1 + length (lines l.text)))

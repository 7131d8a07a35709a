-- The pairs of the lines that are left make of this table what all make.
use Rattle.std.proofs.Common.{◌≡◌, ℕ, List, fold}
use Rattle.std.specs.Iterator.{AlwaysYields}
use Rattle.std.specs.Str.Iter.{lines_steps}
use Rattle.config_params.specs.Properties.{pairs_of, pairs_of_lines}
use Rattle.config_params.specs.Tables.{with_pair, table_of}
use Rattle.config_params.proofs.properties.table_of.Given as goal

abbrev pub invariant-loop-line : goal.invariant-loop-line
invariant-loop-line l =
    (goal.iterator-loop-line).can_next l.line-iterator ×
    (goal.iterator-loop-line).is_finite l.line-iterator ×
    ((ys : List (List ℕ)) × AlwaysYields lines_steps (λ x. x.now) l.line-iterator ys × (fold with_pair l.table (pairs_of_lines ys) ≡ table_of (pairs_of l.text)))

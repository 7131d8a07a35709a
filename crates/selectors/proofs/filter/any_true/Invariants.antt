-- None of the expressions so far is true of the tags.
use Rattle.std.proofs.Common.{◌≡◌, false, take}
use Rattle.selectors.specs.Filters.{any_true}
use Rattle.tag_expr.specs.Expressions.{together}
use Rattle.selectors.proofs.filter.any_true.Given as goal

abbrev pub invariant-loop-expression : goal.invariant-loop-expression
invariant-loop-expression l = any_true (take l.expression-index l.expressions) (together l.sets) ≡ false

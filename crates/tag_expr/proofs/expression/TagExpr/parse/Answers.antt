-- What was read of the whole text is its only expression, and a text that was refused has none.
use Rattle.std.proofs.Common.{◌≢◌, map}
use Rattle.tag_expr.specs.declared.fault.TagFault.TheVariants.{NoMemory, TooDeep}
use Rattle.tag_expr.specs.Grammar.{HasNoTree}
use Rattle.tag_expr.specs.Tokens.{token_of, tokens}
use Rattle.tag_expr.proofs.Refusals.{refused_has_no_tree, handed_on, only_given}
use Rattle.tag_expr.proofs.expression.TagExpr.parse.Goals as goal

pub returns-in_err-root-clause-no_tree : goal.returns-in_err-root-clause-no_tree
returns-in_err-root-clause-no_tree c =
    handed_on (λ fault. fault ≢ NoMemory → fault ≢ TooDeep → HasNoTree (map token_of (tokens c.args.text.now))) c.in_err-root.field-0.0 c.from_residual.result c.from_residual.ensures.1
    (λ real other. refused_has_no_tree c.args.text.now c.in_err-root.field-0.0 c.in_err-root.ensures.refused other)

pub returns-in-Some-clause-only : goal.returns-in-Some-clause-only
returns-in-Some-clause-only c = only_given _ c.in_ok-root.field-0 c.in-Some.root c.in-Some.is c.in_ok-root.ensures.spelled

-- The text is judged by its tokens, up to the end of the expression and behind it.
use Rattle.std.proofs.Common.{◌≡◌, ◌≤◌, ◌∙◌, [], refl, ap, length, arith, Some}
use Rattle.tag_expr.specs.ExpressionFaults.{operator, first_fault, expression_refusal}
use Rattle.tag_expr.proofs.Refusals.{judged, handed_on}
use Rattle.tag_expr.proofs.expression.read_whole.Goals as goal

pub returns-in_err-read-clause-refused : goal.returns-in_err-read-clause-refused
returns-in_err-read-clause-refused c =
    let short : length c.args.text.now ≤ 1024 = omega arith in
    handed_on (λ fault. expression_refusal c.args.text.now ≡ Some fault) c.in_err-read.field-0.0 c.from_residual.result c.from_residual.ensures.1 (judged c.args.text.now _ _ short c.in-Some.ensures.found ∙ c.in_err-read.ensures.refused [] refl refl)

pub returns-in-Some-fault_behind-clause-refused : goal.returns-in-Some-fault_behind-clause-refused
returns-in-Some-fault_behind-clause-refused c =
    let short : length c.args.text.now ≤ 1024 = omega arith in
    judged c.args.text.now _ _ short c.in-Some.ensures.found ∙ c.in_ok-read.ensures.read.faultless [] refl refl ∙ c.in-Some-fault_behind.ensures.cases

pub returns-in-None-clause-accepted : goal.returns-in-None-clause-accepted
returns-in-None-clause-accepted c =
    let short : length c.args.text.now ≤ 1024 = omega arith in
    judged c.args.text.now _ _ short c.in-Some.ensures.found ∙ c.in_ok-read.ensures.read.faultless [] refl refl ∙ ap (first_fault (length c.args.text.now) operator []) c.in-None.ensures.cases

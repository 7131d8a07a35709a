-- The two parentheses in characters, as in bytes.
use Rattle.std.proofs.Common.{◌∙◌, ap, sym, lit<}
use Rattle.std.specs.Prelude.{None, Some, is_some}
use Rattle.std.proofs.lemmas.Str.Pattern.{strip_prefix_char}
use Rattle.tag_expr.proofs.Calls.{called_no_first, called_second}
use Rattle.tag_expr.proofs.token.after_call.Goals as goal

pub returns-in_err-strip_prefix-clause-called : goal.returns-in_err-strip_prefix-clause-called
returns-in_err-strip_prefix-clause-called c =
    ap is_some c.from_residual.ensures ∙ sym (called_no_first c.args.text.now c.utf8.text (strip_prefix_char 40 c.args.text.now None c.in_err-strip_prefix.ensures.cases (lit< tt)))

pub returns-clause-called : goal.returns-clause-called
returns-clause-called c =
    let first = strip_prefix_char 40 c.args.text.now (Some c.in_ok-strip_prefix.field-0) c.in_ok-strip_prefix.ensures.cases (lit< tt) in
    let second = strip_prefix_char 41 c.in_ok-strip_prefix.field-0.now c.strip_prefix-2.result c.strip_prefix-2.ensures.cases (lit< tt) in
    (called_second c.args.text.now c.in_ok-strip_prefix.field-0.now c.strip_prefix-2.result c.utf8.text first second).0

pub returns-clause-after : goal.returns-clause-after
returns-clause-after c =
    let first = strip_prefix_char 40 c.args.text.now (Some c.in_ok-strip_prefix.field-0) c.in_ok-strip_prefix.ensures.cases (lit< tt) in
    let second = strip_prefix_char 41 c.in_ok-strip_prefix.field-0.now c.strip_prefix-2.result c.strip_prefix-2.ensures.cases (lit< tt) in
    (called_second c.args.text.now c.in_ok-strip_prefix.field-0.now c.strip_prefix-2.result c.utf8.text first second).1

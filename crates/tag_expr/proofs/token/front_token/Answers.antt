-- A sign is one character, and what is no sign is a word or a call.
use Rattle.std.proofs.Common.{◌∙◌, sym}
use Rattle.tag_expr.proofs.TokenTexts.{after_sign}
use Rattle.tag_expr.proofs.token.front_token.Goals as goal

pub returns-in-Some-sign_of-clause-rest : goal.returns-in-Some-sign_of-clause-rest
returns-in-Some-sign_of-clause-rest c =
    c.as_str.ensures ∙ (after_sign c.args.text.now _ c.in-Some.c _ c.utf8.text (sym c.chars-characters.ensures.rest ∙ c.in-Some.ensures.steps.0) c.in-Some-sign_of.ensures.sign).1

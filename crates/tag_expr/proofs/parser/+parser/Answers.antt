-- Each phrase is read from its parts.
use Rattle.std.proofs.Common.{◌<◌, ◌∙◌, ◌∷◌, ap, arith}
use Rattle.std.specs.Option.{option_map}
use Rattle.tag_expr.specs.Nodes.{expression_of}
use Rattle.tag_expr.specs.Tokens.{placed}
use Rattle.tag_expr.specs.TokenTexts.{token_read, tokens_left}
use Rattle.tag_expr.proofs.Phrases.{read_word, read_any, read_none, read_negation, read_group, read_one, read_more}
use Rattle.tag_expr.proofs.parser.+parser.Goals as goal

pub operand-returns-in-Word-clause-read : goal.operand-returns-in-Word-clause-read
operand-returns-in-Word-clause-read t c =
    let is = c.in-Some.ensures.found ∙ ap (λ k. placed c.in-Some.found.place (token_read k) ∷ tokens_left c.args.end c.in-Some.found.rest.now) c.in-Word.is in
    read_word (λ read. option_map expression_of read.node) (λ read. read.rest.now) c.word.result c.args.end c.args.pending _ _ _ _ is c.word.ensures.good c.word.ensures.read c.word.ensures.left

pub operand-returns-in-AnyCall-clause-read : goal.operand-returns-in-AnyCall-clause-read
operand-returns-in-AnyCall-clause-read t c =
    read_any _ _ _ _ _ (c.in-Some.ensures.found ∙ ap (λ k. placed c.in-Some.found.place (token_read k) ∷ tokens_left c.args.end c.in-Some.found.rest.now) c.in-AnyCall.is)

pub operand-returns-in-NoneCall-clause-read : goal.operand-returns-in-NoneCall-clause-read
operand-returns-in-NoneCall-clause-read t c =
    read_none _ _ _ _ _ (c.in-Some.ensures.found ∙ ap (λ k. placed c.in-Some.found.place (token_read k) ∷ tokens_left c.args.end c.in-Some.found.rest.now) c.in-NoneCall.is)

pub operand-returns-in_ok-read-in-Bang-clause-read : goal.operand-returns-in_ok-read-in-Bang-clause-read
operand-returns-in_ok-read-in-Bang-clause-read t c =
    let is = c.in-Some.ensures.found ∙ ap (λ k. placed c.in-Some.found.place (token_read k) ∷ tokens_left c.args.end c.in-Some.found.rest.now) c.in-Bang.is in
    let few : c.args.pending < 64 = omega arith in
    read_negation _ _ _ _ _ _ _ _ is few c.in_ok-read-in-Bang.ensures.read c.negation.ensures

pub operand-returns-in-Ok-clause-read : goal.operand-returns-in-Ok-clause-read
operand-returns-in-Ok-clause-read t c =
    let is = c.in-Some.ensures.found ∙ ap (λ k. placed c.in-Some.found.place (token_read k) ∷ tokens_left c.args.end c.in-Some.found.rest.now) c.in-LeftParen.is in
    let few : c.args.pending < 64 = omega arith in
    read_group _ _ _ _ _ _ _ _ is few c.in_ok-read-in-LeftParen.ensures.read c.in-Ok.ensures.closed

pub operands-loop-after-init : goal.operands-loop-after-init
operands-loop-after-init t c = (read_one c.args.connective _ _ _ _ _ c.in_ok-read.ensures.read, c.in_ok-read.ensures.shorter, c.in_ok-read.ensures.ended)

pub operands-loop-after-preserved : goal.operands-loop-after-preserved
operands-loop-after-preserved t c = (
  read_more c.args.connective _ _ _ _ _ _ _ _ _ c.loop-after.invariant.0 c.in-Some.ensures.cases c.in_ok-right.ensures.read c.joined.ensures,
  omega (arith, c.loop-after.invariant.1, c.in-Some.ensures.shorter, c.in_ok-right.ensures.shorter),
  c.in_ok-right.ensures.ended,
)

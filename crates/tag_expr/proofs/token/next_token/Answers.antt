-- The first token stands behind the white space.
use Rattle.std.proofs.Common.{◌≡◌, ◌∙◌, ◌<◌, length, arith}
use Rattle.std.proofs.lemmas.Bool.Decides.{nat_tests}
use Rattle.tag_expr.proofs.NextTokens.{no_tokens, turn}
use Rattle.tag_expr.proofs.TokenTexts.{trimmed}
use Rattle.tag_expr.proofs.token.next_token.Goals as goal

pub returns-then-is_empty-clause-found : goal.returns-then-is_empty-clause-found
returns-then-is_empty-clause-found c =
    let empty : length c.trim_start-left.result.now ≡ 0 = grind (arith, nat_tests) in
    (trimmed c.args.end c.args.left.now c.trim_start-left.result.now c.utf8.left c.requires c.trim_start-left.ensures.trim).same ∙ no_tokens c.args.end c.trim_start-left.result.now empty

pub returns-clause-found : goal.returns-clause-found
returns-clause-found c =
    let some : 0 < length c.trim_start-left.result.now = grind (arith, nat_tests) in
    let trim = trimmed c.args.end c.args.left.now c.trim_start-left.result.now c.utf8.left c.requires c.trim_start-left.ensures.trim in
    (turn c.args.end c.args.left.now c.trim_start-left.result.now c.front_token.result.1.now _ trim c.requires some c.front_token.ensures.token c.front_token.ensures.rest).0

pub returns-clause-shorter : goal.returns-clause-shorter
returns-clause-shorter c =
    let some : 0 < length c.trim_start-left.result.now = grind (arith, nat_tests) in
    let trim = trimmed c.args.end c.args.left.now c.trim_start-left.result.now c.utf8.left c.requires c.trim_start-left.ensures.trim in
    (turn c.args.end c.args.left.now c.trim_start-left.result.now c.front_token.result.1.now _ trim c.requires some c.front_token.ensures.token c.front_token.ensures.rest).1

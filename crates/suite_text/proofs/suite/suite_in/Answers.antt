-- The lines are those of a text that is not too large.
use Rattle.std.proofs.Common.{◌≡◌, ◌≤◌, ◌∙◌, ap, arith, length}
use Rattle.std.specs.Str.Lines.{lines}
use Rattle.suite_words.specs.Limits.{byte_limit}
use Rattle.unique_id.specs.Answers.{texts}
use Rattle.suite_text.proofs.Reading.Steps.{suite_small}
use Rattle.suite_text.proofs.suite.suite_in.Goals as goal

pub returns-clause-exact : goal.returns-clause-exact
returns-clause-exact c =
    let few : length c.args.text.now ≤ byte_limit c.args.most = omega (arith, c.if-text-byte_limit.false, c.byte_limit.ensures.exact) in
    let whole : texts c.deref.result.now ≡ lines c.args.text.now = ap texts c.deref.ensures.value ∙ c.in_ok-lines_in.ensures in
    rw (suite_small c.args.most c.args.text.now few, ← whole, ← c.node_limit.ensures.exact) c.suite_of_lines.ensures.exact

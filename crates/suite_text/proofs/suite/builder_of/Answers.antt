-- How many nodes there may be is what was asked for.
use Rattle.std.proofs.Common.{ap, ◌∙◌}
use Rattle.unique_id.specs.Answers.{texts}
use Rattle.suite_text.specs.Reading.Parts.{LinesRead}
use Rattle.suite_text.proofs.Writing.Stacks.{limit_same}
use Rattle.suite_text.proofs.suite.builder_of.Goals as goal

pub returns-clause-limit : goal.returns-clause-limit
returns-clause-limit c =
    limit_same (texts c.args.lines.now) 1 c.in_ok-builder.builder c.read_lines.new.self c.in_ok-read_lines.ensures.added ∙ ap (λ (r : LinesRead). r.limit) c.in_ok-builder.ensures

-- What is asked of a task holds of its node.
use Rattle.std.proofs.Common.{◌∙◌, sym, ap}
use Rattle.scheduling.specs.declared.task.Task.{Task}
use Rattle.scheduling.specs.Answers.{reply_by}
use Rattle.scheduling.specs.Choices.{decided}
use Rattle.scheduling.specs.State.{subject}
use Rattle.scheduling.proofs.turns.decided.Goals as goal

pub opened-requires-clause-inside : goal.opened-requires-clause-inside
opened-requires-clause-inside c = c.requires.inside c.in-Opens.node (ap subject c.in-Opens.is)

pub returns-in-Closes : goal.returns-in-Closes
returns-in-Closes c = c.closed.ensures c.args.plan.now ∙ sym (ap (λ (t : Task). decided c.args.plan.now (reply_by c.args.answer) t) c.in-Closes.is)

-- What is asked of a seat holds of its task's node.
use Rattle.std.proofs.Common.{◌∙◌, ap, sym}
use Rattle.scheduling.specs.declared.task.Task.{Task}
use Rattle.scheduling.specs.Choices.{awaited}
use Rattle.scheduling.specs.State.{subject}
use Rattle.scheduling.proofs.choices.awaited.Goals as goal

pub opening_body-requires : goal.opening_body-requires
opening_body-requires c = c.requires.task c.in-Opens.node (ap subject c.in-Opens.is)

pub closing_body-requires : goal.closing_body-requires
closing_body-requires c = c.requires.task c.in-Closes.node (ap subject c.in-Closes.is)

pub returns-in-Opens : goal.returns-in-Opens
returns-in-Opens c = c.opening_body.ensures c.args.seat.now ∙ sym (ap (λ (t : Task). awaited c.args.plan.now c.args.seat.now t) c.in-Opens.is)

pub returns-in-Closes : goal.returns-in-Closes
returns-in-Closes c = c.closing_body.ensures c.args.seat.now ∙ sym (ap (λ (t : Task). awaited c.args.plan.now c.args.seat.now t) c.in-Closes.is)

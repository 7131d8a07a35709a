-- The guard that is given up is that of a node of the tree, and what it leaves is as the row of the step says.
use Rattle.std.proofs.Common.{Some}
use Rattle.scheduling.specs.Answers.{reply_by}
use Rattle.scheduling.specs.Due.{guard_to}
use Rattle.scheduling.proofs.DueRows.{guard_is}
use Rattle.sched_core.specs.Inside.Fields.{state_of, seated}
use Rattle.sched_core.proofs.Answering.{answered_by}
use Rattle.scheduling.proofs.DueInside.{guard_inside}
use Rattle.sched_core.proofs.machine.Machine.done.Goals as goal

pub due_guard-requires-clause-inside : goal.due_guard-requires-clause-inside
due_guard-requires-clause-inside c h held = (c.requires.hand h held).inside

pub give_guard-requires-clause-inside : goal.give_guard-requires-clause-inside
give_guard-requires-clause-inside c =
    let due = c.in-Some-due_guard.due in
    guard_inside c.args.plan.now c.args.task c.requires.opens (Some (reply_by c.args.answer)) (seated c.args.task c.args.hand) (guard_to due.node due.result due.hand) (λ h held. (c.requires.hand h held).inside) c.in-Some-due_guard.ensures.some

pub returns : goal.returns
returns c =
    let due = c.in-Some-due_guard.due in
    let row = guard_is c.args.plan.now (state_of c.args.self.now) c.args.place (seated c.args.task c.args.hand) (guard_to due.node due.result due.hand) (Some (reply_by c.args.answer)) c.args.task c.in-Some-due_guard.ensures.some in
    answered_by c.args.self.now c.give_guard.new.self _ _ row c.give_guard.ensures.state c.give_guard.ensures.room

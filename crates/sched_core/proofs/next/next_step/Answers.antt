-- The choice by the answer is the choice by the reply that it tells of, and no node below the new number is open after it.
use Rattle.std.proofs.Common.{sym, subst, List}
use Rattle.scheduling.specs.declared.status.NodeStatus.{NodeStatus}
use Rattle.scheduling.specs.Answers.{reply_by}
use Rattle.sched_core.specs.Statuses.{NoneOpenIn}
use Rattle.sched_core.proofs.Choosing.{told_next, none_below}
use Rattle.sched_core.proofs.next.next_step.Goals as goal

pub returns-clause-action : goal.returns-clause-action
returns-clause-action c s reply words told = told_next c.args.plan.now s c.args.task.now c.args.hand.now reply c.args.answer c.choice.result.action told (c.choice.ensures.action s words)

pub returns-clause-none_below : goal.returns-clause-none_below
returns-clause-none_below c s t reply words leads =
    let none = subst (λ (l : List NodeStatus). NoneOpenIn l c.args.lowest) (sym words) c.requires.none_below in
    none_below c.args.plan.now s t reply c.choice.result.action c.args.lowest c.choice.result.lowest none c.args.task.now c.args.hand.now (reply_by c.args.answer) (c.choice.ensures.action s words) leads
    (c.choice.ensures.free s words) c.choice.ensures.held c.choice.ensures.busy

-- The key that is given back is one of the node's, and the worker goes on as is due.
use Rattle.std.proofs.Common.{sym, subst, Option}
use Rattle.scheduling.specs.State.{State}
use Rattle.sched_core.specs.Inside.Fields.{state_of, IsAnswered}
use Rattle.sched_core.proofs.Answering.{gives_due}
use Rattle.sched_core.proofs.machine.Machine.give.Goals as goal

pub give_key-requires-clause-node : goal.give_key-requires-clause-node
give_key-requires-clause-node c = (c.requires.keys _ c.in-Some.ensures.some).node

pub give_key-requires-clause-key : goal.give_key-requires-clause-key
give_key-requires-clause-key c = (c.requires.keys _ c.in-Some.ensures.some).key

pub returns : goal.returns
returns c =
    let row = gives_due c.args.plan.now (state_of c.args.self.now) c.args.place c.args.task c.after_back.result c.args.hand _ c.in-Some.ensures.some (c.after_back.ensures c.args.hand) in
    subst (λ (o : Option State). IsAnswered c.args.self.now o c.give_key.result c.give_key.new.self) (sym row) c.give_key.ensures

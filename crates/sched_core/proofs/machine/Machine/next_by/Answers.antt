-- With a factory in hand it does what the hand asks for.
use Rattle.std.proofs.Common.{arith}
use Rattle.std.proofs.lemmas.Grind.{common_steps}
use Rattle.sched_core.specs.Inside.Fields.{state_of}
use Rattle.sched_core.proofs.Finding.{next_with}
use Rattle.sched_core.proofs.machine.Machine.next_by.Goals as goal

pub returns-in-Some : goal.returns-in-Some
returns-in-Some c reply told =
    next_with c.args.plan.now (state_of c.args.self.now) c.args.place reply c.args.task.now c.args.hand.now c.in-Some.hand c.next_of_hand.result (grind (arith, common_steps)) (grind (arith, common_steps)) (c.next_of_hand.ensures c.args.place reply told)

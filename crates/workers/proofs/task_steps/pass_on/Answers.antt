use Rattle.workers.proofs.Due.{admits, is_ready}
use Rattle.workers.proofs.task_steps.pass_on.Goals as goal

pub returns-in-Some-clause-steady : goal.returns-in-Some-clause-steady
returns-in-Some-clause-steady g c = λ phase it. admits c.args.seat.now.seat c.admit_due.new.self.seat c.admit_due.ensures.same.about _ c.admit_due.ensures.done phase (is_ready c.args.seat.now.seat phase it)

pub returns-in_default-clause-steady : goal.returns-in_default-clause-steady
returns-in_default-clause-steady g c = λ phase it. admits c.args.seat.now.seat c.admit_due.new.self.seat c.admit_due.ensures.same.about _ c.admit_due.ensures.done phase (is_ready c.args.seat.now.seat phase it)

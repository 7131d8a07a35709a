use Rattle.workers.proofs.Due.{draws, is_ready}
use Rattle.workers.proofs.task_steps.begin.Goals as goal

pub returns-clause-steady : goal.returns-clause-steady
returns-clause-steady g c = λ phase it. draws c.args.seat.now.seat c.draw_due.new.self.seat c.draw_due.ensures.same.about _ c.draw_due.ensures.done c.draw_due.ensures.unmoved phase (is_ready c.args.seat.now.seat phase it)

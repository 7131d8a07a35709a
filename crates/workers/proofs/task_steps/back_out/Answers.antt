use Rattle.workers.proofs.Due.{gives}
use Rattle.workers.proofs.task_steps.back_out.Goals as goal

pub returns-clause-steady : goal.returns-clause-steady
returns-clause-steady g c =
    let self = c.args.seat.now in
    gives self.seat c.give_due.new.self.seat c.give_due.ensures.same.about self.task _ self.hand self.at_work.seat_is c.give_due.ensures.done

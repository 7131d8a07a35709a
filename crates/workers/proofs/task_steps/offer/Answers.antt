use Rattle.workers.proofs.Due.{admits}
use Rattle.workers.proofs.task_steps.offer.Goals as goal

pub returns-clause-steady : goal.returns-clause-steady
returns-clause-steady g c = admits c.args.seat.now.seat c.admit_due.new.self.seat c.admit_due.ensures.same.about _ c.admit_due.ensures.done

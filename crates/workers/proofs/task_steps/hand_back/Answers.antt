use Rattle.std.proofs.Common.{inl, refl}
use Rattle.scheduling.specs.declared.task.Opening.TheVariants.{Backing}
use Rattle.scheduling.specs.declared.task.Task.TheVariants.{Opens}
use Rattle.workers.proofs.Steps.{moved, opens_busy}
use Rattle.workers.proofs.task_steps.hand_back.Goals as goal

pub returns-clause-steady : goal.returns-clause-steady
returns-clause-steady g c = λ phase it.
    let self = c.args.seat.now in
    let d = c.give_up_due.ensures.done in
    moved self.seat c.give_up_due.new.self.seat phase self.task self.hand self.at_work.seat_is c.give_up_due.ensures.same.about it _ d.2.worker_is (Opens d.0 (Backing 0)) d.1 (opens_busy d.0 (Backing 0)) refl (refl) (inl refl)

-- A step that opens a node, by its task.
use Rattle.std.proofs.Common.{rules, inr, refl}
use Rattle.scheduling.specs.declared.task.Opening.TheVariants.{Noticing, Locking, Weighed}
use Rattle.scheduling.specs.declared.task.Task.TheVariants.{Opens}
use Rattle.workers.proofs.Due.{draws, guards, is_ready}
use Rattle.workers.proofs.Quiet.{quiet_begins, quiet_weighed, quiet_tried}
use Rattle.workers.proofs.Steps.{moved, opens_busy}
use Rattle.workers.proofs.task_steps.go_on_opening.Goals as goal

pub returns-in-Registering-clause-steady : goal.returns-in-Registering-clause-steady
returns-in-Registering-clause-steady g c = λ phase it. draws c.args.seat.now.seat c.draw_due.new.self.seat c.draw_due.ensures.same.about _ c.draw_due.ensures.done c.draw_due.ensures.unmoved phase (is_ready c.args.seat.now.seat phase it)

pub returns-in-Noticing-clause-steady : goal.returns-in-Noticing-clause-steady
returns-in-Noticing-clause-steady g c = λ phase it.
    let self = c.args.seat.now in
    let d = c.notice_due.ensures.done in
    moved self.seat c.notice_due.new.self.seat phase self.task self.hand self.at_work.seat_is c.notice_due.ensures.same.about it _ d.3.worker_is (Opens d.0 Noticing) d.2 (opens_busy d.0 Noticing) refl (quiet_begins self.seat.me.0.about.plan d.0 d.1) (inr refl)

pub returns-in-Locking-clause-steady : goal.returns-in-Locking-clause-steady
returns-in-Locking-clause-steady g c = λ phase it.
    let self = c.args.seat.now in
    let d = c.weigh_due.ensures.done in
    moved self.seat c.weigh_due.new.self.seat phase self.task self.hand self.at_work.seat_is c.weigh_due.ensures.same.about it _ d.4.worker_is (Opens d.0 (Locking d.1)) d.3 (opens_busy d.0 (Locking d.1)) refl (quiet_weighed self.seat.me.0.about.plan d.0 d.1 d.2) (inr refl)

pub returns-in-Weighed-clause-steady : goal.returns-in-Weighed-clause-steady
returns-in-Weighed-clause-steady g c = λ phase it.
    let self = c.args.seat.now in
    let d = c.take_due.ensures.done in
    moved self.seat c.take_due.new.self.seat phase self.task self.hand self.at_work.seat_is c.take_due.ensures.same.about it _ d.5.worker_is (Opens d.0 (Weighed d.1 d.2)) d.4 (opens_busy d.0 (Weighed d.1 d.2)) refl (quiet_tried self.seat.me.0.about.plan d.0 d.1 d.3) (inr refl)

pub returns-in-Guarding-clause-steady : goal.returns-in-Guarding-clause-steady
returns-in-Guarding-clause-steady g c = λ phase it. guards c.args.seat.now.seat c.give_guard_due.new.self.seat c.give_guard_due.ensures.same.about c.args.node _ (search rules) c.give_guard_due.ensures.done c.give_guard_due.ensures.after phase (is_ready c.args.seat.now.seat phase it)

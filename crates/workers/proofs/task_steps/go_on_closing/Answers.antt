-- A step that closes a node, by its task.
use Rattle.std.proofs.Common.{◌∙◌, inl, refl, subst}
use Rattle.descriptor.specs.Nodes.{parent_of}
use Rattle.scheduling.specs.declared.seat.Seat.{Seat}
use Rattle.scheduling.specs.declared.task.Closing.TheVariants.{Raising, Looking, CountingOff}
use Rattle.scheduling.specs.declared.task.Task.TheVariants.{Closes}
use Rattle.table_rule.specs.Plays.{worker, result_in, outstanding_in}
use Rattle.run_table.specs.Seats.{seated}
use Rattle.workers.specs.Inside.Steady.{HandKept}
use Rattle.workers.proofs.Due.{draws, gives, is_ready}
use Rattle.workers.proofs.Endings.{ends_steady}
use Rattle.workers.proofs.Quiet.{quiet_giving}
use Rattle.workers.proofs.Steps.{arrives, moved, closes_busy}
use Rattle.workers.proofs.task_steps.go_on_closing.Goals as goal

pub returns-in-Ending-clause-steady : goal.returns-in-Ending-clause-steady
returns-in-Ending-clause-steady g c = λ phase it. draws c.args.seat.now.seat c.draw_due.new.self.seat c.draw_due.ensures.same.about _ c.draw_due.ensures.done c.draw_due.ensures.unmoved phase (is_ready c.args.seat.now.seat phase it)

pub returns-in-Raising-clause-steady : goal.returns-in-Raising-clause-steady
returns-in-Raising-clause-steady g c = λ phase it.
    let self = c.args.seat.now in
    let d = c.raise_due.ensures.done in
    moved self.seat c.raise_due.new.self.seat phase self.task self.hand self.at_work.seat_is c.raise_due.ensures.same.about it _ d.2.worker_is (Closes d.0 Raising) d.1 (closes_busy d.0 Raising) refl (quiet_giving d.0 _) (inl refl)

pub returns-in-Giving-clause-steady : goal.returns-in-Giving-clause-steady
returns-in-Giving-clause-steady g c =
    let self = c.args.seat.now in
    gives self.seat c.give_due.new.self.seat c.give_due.ensures.same.about self.task _ self.hand self.at_work.seat_is c.give_due.ensures.done

pub returns-in-Looking-clause-steady : goal.returns-in-Looking-clause-steady
returns-in-Looking-clause-steady g c = λ phase it.
    let self = c.args.seat.now in
    let d = c.look_due.ensures.done in
    moved self.seat c.look_due.new.self.seat phase self.task self.hand self.at_work.seat_is c.look_due.ensures.same.about it _ d.4.worker_is (Closes d.0 (Looking d.1)) d.3 (closes_busy d.0 (Looking d.1)) refl (refl) (inl refl)

pub returns-in-CountingOff-clause-steady : goal.returns-in-CountingOff-clause-steady
returns-in-CountingOff-clause-steady g c = λ phase it.
    let self = c.args.seat.now in
    let w = worker self.seat.me.0 in
    let p = self.seat.me.0.about.plan in
    let d = c.count_off_due.ensures.done in
    let hand = subst (λ (s : Seat). HandKept p phase s w.slots) self.at_work.seat_is it.hand in
    arrives self.seat c.count_off_due.new.self.seat phase _ c.count_off_due.ensures.same.about d.3.worker_is
    (ends_steady p phase (seated self.task self.hand) w.slots hand (Closes d.0 CountingOff) d.2 (closes_busy d.0 CountingOff) refl (parent_of p.tree d.0) (result_in d.1) (outstanding_in d.1) (λ m e. c.count_off_due.ensures.after m (d.3.task ∙ e)))

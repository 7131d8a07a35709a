-- The guard that is due is given up.
use Rattle.table_rule.specs.Plays.{worker, guard_due}
use Rattle.run_table.specs.Seats.{guard_to, reply_in}
use Rattle.run_table.proofs.Facts.{ready_seat_in, ready_hand, guard_low}
use Rattle.run_table.proofs.Knowing.{guard_known}
use Rattle.std.proofs.Common.{sym, ap, ◌∙◌}
use Rattle.scheduling.specs.State.{subject}
use Rattle.run_table.proofs.Facts.{plan_is, seat_in}
use Rattle.run_table.proofs.worker.WorkerSeat.give_guard_due.Goals as goal

pub give_guard-requires-clause-inside : goal.give_guard-requires-clause-inside
give_guard-requires-clause-inside g c =
    let self = c.args.self.now in
    let fit = c.args.table.now.fitting in
    let here = seat_in _ _ _ self.seat fit c.requires.table self.at_work self.within in
    let there = ready_seat_in _ _ _ self.seat fit c.requires.table self.at_work self.within in
    let due = c.in-Some.due in
    guard_low c.args.table.now.plan (reply_in self.answer) c.ready_task.result self.hand due.node due.result due.hand (λ n e. there.inside n (ap subject (sym c.ready_task.ensures) ∙ e)) here.hand c.in-Some.ensures.some

pub returns-clause-done : goal.returns-clause-done
returns-clause-done g c =
    let self = c.args.self.now in
    let it = self.at_work in
    let fit = c.args.table.now.fitting in
    let due = c.in-Some.due in
    let w = worker self.seat.me.0 in
    let plan = plan_is _ _ _ self.seat fit c.requires.table in
    let hand = ready_hand self.seat.me.0.about.plan w ∙ ap (λ s. s.hand) it.seat_is in (
      guard_to due.node due.result due.hand,
      c.give_guard.ensures.done.0,
      (guard_known self.seat.me.0.about.plan w self.task self.hand it.seat_is
          ∙ ((λ k. guard_due (plan k) (reply_in (it.answer_is k)) (record { task = sym c.ready_task.ensures k; hand = hand k }) (sym c.ready_task.ensures k)) ∙ c.in-Some.ensures.some)),
      c.give_guard.ensures.done.1,
    )

pub unreachable-requires : goal.unreachable-requires
unreachable-requires g c =
    let self = c.args.self.now in
    let it = self.at_work in
    let fit = c.args.table.now.fitting in
    let w = worker self.seat.me.0 in
    let plan = plan_is _ _ _ self.seat fit c.requires.table in
    let hand = ready_hand self.seat.me.0.about.plan w ∙ ap (λ s. s.hand) it.seat_is in
    c.requires.due (guard_known self.seat.me.0.about.plan w self.task self.hand it.seat_is
    ∙ ((λ k. guard_due (plan k) (reply_in (it.answer_is k)) (record { task = sym c.ready_task.ensures k; hand = hand k }) (sym c.ready_task.ensures k)) ∙ c.in_default.ensures.none))

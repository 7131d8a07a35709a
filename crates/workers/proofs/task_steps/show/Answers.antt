-- Where there is room the event that was drawn is shown.
use Rattle.std.proofs.Common.{rules, subst}
use Rattle.scheduling.specs.declared.seat.Seat.{Seat}
use Rattle.table_rule.specs.Plays.{worker, goes_on, shown_seat}
use Rattle.run_table.specs.Seats.{seated}
use Rattle.workers.specs.Going.{GoesOn}
use Rattle.workers.specs.Inside.Steady.{IsSteady}
use Rattle.workers.proofs.Outgoing.{then_goes}
use Rattle.workers.proofs.Steps.{arrives, shown_steady}
use Rattle.workers.proofs.task_steps.show.Goals as goal

pub returns-clause-goes_on : goal.returns-clause-goes_on
returns-clause-goes_on g c =
    let shown : GoesOn c.find_room.new.seat.seat c.show_due.new.self.seat = search rules in
    then_goes _ _ _ c.find_room.ensures.goes_on shown

pub returns-clause-steady : goal.returns-clause-steady
returns-clause-steady g c = λ phase it.
    let self = c.find_room.new.seat in
    let w = worker self.seat.me.0 in
    let p = self.seat.me.0.about.plan in
    let d = c.show_due.ensures.done in
    let here = subst (λ (s : Seat). IsSteady p phase s w.slots) self.at_work.seat_is (c.find_room.ensures.steady phase it) in
    arrives self.seat c.show_due.new.self.seat phase (goes_on (shown_seat p (seated self.task self.hand) self.task) w) c.show_due.ensures.same.about d.4.worker_is
    (shown_steady p phase (seated self.task self.hand) w.slots here self.number (d.0, d.1) d.2)

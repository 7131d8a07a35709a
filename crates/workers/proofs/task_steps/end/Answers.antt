use Rattle.std.proofs.Common.{subst}
use Rattle.scheduling.specs.declared.seat.Seat.{Seat}
use Rattle.table_rule.specs.Plays.{worker, goes_on, settled_seat}
use Rattle.run_table.specs.Seats.{seated}
use Rattle.workers.specs.Inside.Steady.{IsSteady}
use Rattle.workers.proofs.Steps.{arrives}
use Rattle.workers.proofs.Endings.{settled_steady}
use Rattle.workers.proofs.task_steps.end.Goals as goal

pub returns-clause-steady : goal.returns-clause-steady
returns-clause-steady g c = λ phase it.
    let self = c.args.seat.now in
    let w = worker self.seat.me.0 in
    let p = self.seat.me.0.about.plan in
    let d = c.settle_due.ensures.done in
    let here = subst (λ (s : Seat). IsSteady p phase s w.slots) self.at_work.seat_is it in
    arrives self.seat c.settle_due.new.self.seat phase (goes_on (settled_seat p (seated self.task self.hand) d.0) w) c.settle_due.ensures.same.about d.2.worker_is
    (settled_steady p phase (seated self.task self.hand) w.slots here d.0 d.1)

-- The event that is due is drawn.
use Rattle.table_rule.specs.Plays.{worker, ready_in, event_due}
use Rattle.run_table.proofs.Facts.{is_due}
use Rattle.run_table.proofs.worker.WorkerSeat.draw_due.Goals as goal

pub draw_next-requires-clause-due : goal.draw_next-requires-clause-due
draw_next-requires-clause-due g c =
    let self = c.args.self.now in
    is_due (event_due (worker self.seat.me.0).number (ready_in self.seat.me.0).seat.task) c.requires.due

pub returns-clause-done : goal.returns-clause-done
returns-clause-done g c =
    let self = c.args.self.now in
    let e = is_due (event_due (worker self.seat.me.0).number (ready_in self.seat.me.0).seat.task) c.requires.due in
    let drawn = c.draw_next.ensures.done e.0 e.1 in
    (e.0, drawn.0, e.1, drawn.1)

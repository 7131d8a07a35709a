use Rattle.std.proofs.Common.{◌≢◌, None, sym, subst}
use Rattle.table_rule.specs.Plays.{worker, finds_room}
use Rattle.workers.proofs.Roomy.{still_named, room_said}
use Rattle.workers.proofs.Steps.{arrives}
use Rattle.workers.proofs.task_steps.look_for_room.Goals as goal

pub returns-clause-steady : goal.returns-clause-steady
returns-clause-steady g c = λ phase it.
    let self = c.args.seat.now in
    let d = c.room_due.ensures.done in
    arrives self.seat c.room_due.new.self.seat phase (finds_room d.0 c.room_due.result (worker self.seat.me.0)) c.room_due.ensures.same.about d.3 it

pub returns-clause-due : goal.returns-clause-due
returns-clause-due g c =
    let self = c.args.seat.now in
    let next = c.room_due.new.self in
    let d = c.room_due.ensures.done in
    subst (λ x. x ≢ None) (sym (still_named self.seat next.seat d.0 c.room_due.result d.3 _ _ _ _ _ _ next.at_work.number_is self.at_work.number_is next.at_work.seat_is self.at_work.seat_is)) c.requires.due

pub returns-clause-room : goal.returns-clause-room
returns-clause-room g c = λ said.
    let self = c.args.seat.now in
    let next = c.room_due.new.self in
    let d = c.room_due.ensures.done in
    room_said self.seat next.seat d.0 c.room_due.result d.3 _ _ _ _ _ _ next.at_work.number_is self.at_work.number_is next.at_work.seat_is self.at_work.seat_is d.1 d.2 said

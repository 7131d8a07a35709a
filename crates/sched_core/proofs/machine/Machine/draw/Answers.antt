-- What is drawn, and what the worker has then, is as the row of the step says.
use Rattle.std.proofs.Common.{◌≡◌, ◌∙◌, sym, ap, length, arith}
use Rattle.scheduling.specs.declared.seat.Seat.{Seat}
use Rattle.scheduling.specs.Rows.{drawn}
use Rattle.scheduling.specs.Due.{drawn_seat}
use Rattle.scheduling.proofs.DueRows.{draw_is}
use Rattle.sched_core.specs.Inside.Fields.{state_of, seated}
use Rattle.sched_core.proofs.Answering.{answered_by}
use Rattle.sched_core.proofs.machine.Machine.draw.Goals as goal

pub returns : goal.returns
returns c =
    let s = state_of c.args.self.now in
    let w = c.args.place in
    let seat = seated c.args.task c.args.hand in
    let row = draw_is s w seat c.in-Some.event c.args.task (sym c.due_event.ensures ∙ c.in-Some.is) in
    let number : c.len.result ≡ length s.published = grind arith in
    let then = c.after_draw-seat.ensures ∙ ap (λ n. drawn_seat n seat c.args.task) number in
    answered_by c.args.self.now c.publish.new.self _ _ row (c.publish.ensures.state ∙ ap (λ (x : Seat). drawn s w c.in-Some.event x) then) c.publish.ensures.room

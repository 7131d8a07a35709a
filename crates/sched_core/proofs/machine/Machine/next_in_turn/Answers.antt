-- The worker's task as the answers decide it, and what is looked at is in range.
use Rattle.std.proofs.Common.{◌≡◌, ◌∙◌, sym, subst, slice_get, Some}
use Rattle.std.proofs.lemmas.Option.{same_Some}
use Rattle.scheduling.specs.declared.seat.Seat.{Seat}
use Rattle.scheduling.specs.declared.step.Action.TheVariants.{Look}
use Rattle.sched_core.specs.Inside.Fields.{state_of}
use Rattle.sched_core.specs.InTurns.{IsNextInTurn}
use Rattle.sched_core.specs.Steps.{reply_for}
use Rattle.sched_core.proofs.Finding.{seat_at, next_told, waited_inside}
use Rattle.sched_core.proofs.InRange.{bounds, undecided}
use Rattle.sched_core.proofs.Knowing.{told_answer, told_task}
use Rattle.sched_core.proofs.machine.Machine.next_in_turn.Goals as goal

pub awaited-requires-clause-task : goal.awaited-requires-clause-task
awaited-requires-clause-task c =
    let seat = c.index-seat.result.now in
    (undecided c.args.plan.now c.args.answers.now c.args.self.now c.requires.sound c.args.place seat (seat_at _ _ _ seat c.from.ensures c.index-seat.ensures c.requires.place) Look).inside

pub awaited-requires-clause-hand : goal.awaited-requires-clause-hand
awaited-requires-clause-hand c =
    let seat = c.index-seat.result.now in
    (undecided c.args.plan.now c.args.answers.now c.args.self.now c.requires.sound c.args.place seat (seat_at _ _ _ seat c.from.ensures c.index-seat.ensures c.requires.place) Look).hand

pub decided-task-requires-clause-inside : goal.decided-task-requires-clause-inside
decided-task-requires-clause-inside c =
    let seat = c.index-seat.result.now in
    (undecided c.args.plan.now c.args.answers.now c.args.self.now c.requires.sound c.args.place seat (seat_at _ _ _ seat c.from.ensures c.index-seat.ensures c.requires.place) Look).inside

pub next_by-requires-clause-inside : goal.next_by-requires-clause-inside
next_by-requires-clause-inside c h held =
    let seat = c.index-seat.result.now in
    ((bounds c.args.plan.now c.args.answers.now c.args.self.now c.requires.sound c.args.place seat (seat_at _ _ _ seat c.from.ensures c.index-seat.ensures c.requires.place) Look).hand h held).inside

pub next_by-requires-clause-factory : goal.next_by-requires-clause-factory
next_by-requires-clause-factory c h held =
    let seat = c.index-seat.result.now in
    ((bounds c.args.plan.now c.args.answers.now c.args.self.now c.requires.sound c.args.place seat (seat_at _ _ _ seat c.from.ensures c.index-seat.ensures c.requires.place) Look).hand h held).factory

pub next_by-requires-clause-waiting : goal.next_by-requires-clause-waiting
next_by-requires-clause-waiting c h child held waits =
    let seat = c.index-seat.result.now in
    waited_inside c.args.plan.now c.args.answers.now c.args.self.now c.requires.sound c.args.place seat (seat_at _ _ _ seat c.from.ensures c.index-seat.ensures c.requires.place) h child held waits

pub returns : goal.returns
returns c other at =
    let p = c.args.plan.now in
    let answers = c.args.answers.now in
    let s = state_of c.args.self.now in
    let seat = c.index-seat.result.now in
    let here : slice_get c.args.self.now.seats.items c.args.place ≡ Some seat = seat_at _ _ _ seat c.from.ensures c.index-seat.ensures c.requires.place in
    let reply = reply_for p answers seat in
    let said = told_answer p answers seat c.awaited.result c.answer-answer.result c.awaited.ensures c.answer-answer.ensures in
    let task = told_task p reply seat c.answer-answer.result c.decided-task.result said c.decided-task.ensures in
    subst (λ (x : Seat). IsNextInTurn p answers s c.args.place x c.next_by.result) (same_Some seat other (sym here ∙ at))
    (next_told p s c.args.place seat reply c.decided-task.result c.next_by.result task (c.next_by.ensures reply (sym said)))

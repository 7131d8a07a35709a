-- The worker's task as the answers decide it, and what its step finds in range.
use Rattle.std.proofs.Common.{◌≡◌, ◌≢◌, ◌∙◌, ◌-◌, sym, subst, arith, slice_get, Some, Option}
use Rattle.scheduling.specs.declared.task.Task.{Task}
use Rattle.scheduling.specs.State.{State}
use Rattle.scheduling.proofs.DecidedInPlace.{after_direct}
use Rattle.sched_core.specs.Inside.Bounds.{InBounds}
use Rattle.sched_core.specs.Inside.Fields.{state_of, seated, IsAnswered}
use Rattle.sched_core.specs.Steps.{reply_for}
use Rattle.sched_core.proofs.InRange.{bounds, undecided}
use Rattle.sched_core.proofs.Knowing.{told_answer, told_task, told_row}
use Rattle.sched_core.proofs.Sound.{work_is, seat_found}
use Rattle.sched_core.proofs.machine.Machine.work.Goals as goal

pub awaited-requires-clause-task : goal.awaited-requires-clause-task
awaited-requires-clause-task c =
    let here : slice_get c.args.self.now.seats.items (c.args.worker - 1) ≡ Some c.in-Some.seat.now = seat_found _ _ _ _ _ c.deref.ensures.value c.from.ensures c.in-Some.ensures.lookup.0 c.in-Some.ensures.lookup.1 in
    (undecided c.args.plan.now c.args.answers.now c.args.self.now c.requires.sound (c.args.worker - 1) c.in-Some.seat.now here c.args.action).inside

pub awaited-requires-clause-hand : goal.awaited-requires-clause-hand
awaited-requires-clause-hand c =
    let here : slice_get c.args.self.now.seats.items (c.args.worker - 1) ≡ Some c.in-Some.seat.now = seat_found _ _ _ _ _ c.deref.ensures.value c.from.ensures c.in-Some.ensures.lookup.0 c.in-Some.ensures.lookup.1 in
    (undecided c.args.plan.now c.args.answers.now c.args.self.now c.requires.sound (c.args.worker - 1) c.in-Some.seat.now here c.args.action).hand

pub decided-task-requires-clause-inside : goal.decided-task-requires-clause-inside
decided-task-requires-clause-inside c =
    let here : slice_get c.args.self.now.seats.items (c.args.worker - 1) ≡ Some c.in-Some.seat.now = seat_found _ _ _ _ _ c.deref.ensures.value c.from.ensures c.in-Some.ensures.lookup.0 c.in-Some.ensures.lookup.1 in
    (undecided c.args.plan.now c.args.answers.now c.args.self.now c.requires.sound (c.args.worker - 1) c.in-Some.seat.now here c.args.action).inside

pub act-requires-clause-bounds : goal.act-requires-clause-bounds
act-requires-clause-bounds c =
    let seat = c.in-Some.seat.now in
    let here : slice_get c.args.self.now.seats.items (c.args.worker - 1) ≡ Some seat = seat_found _ _ _ _ _ c.deref.ensures.value c.from.ensures c.in-Some.ensures.lookup.0 c.in-Some.ensures.lookup.1 in
    let said = told_answer c.args.plan.now c.args.answers.now seat c.awaited.result c.answer-answer.result c.awaited.ensures c.answer-answer.ensures in
    let task = told_task c.args.plan.now (reply_for c.args.plan.now c.args.answers.now seat) seat c.answer-answer.result c.decided-task.result said c.decided-task.ensures in
    subst (λ (t : Task). InBounds c.args.plan.now c.args.self.now (c.args.worker - 1) (seated t seat.hand)) (sym task) (bounds c.args.plan.now c.args.answers.now c.args.self.now c.requires.sound (c.args.worker - 1) seat here c.args.action)

pub returns : goal.returns
returns c =
    let p = c.args.plan.now in
    let seat = c.in-Some.seat.now in
    let s = state_of c.args.self.now in
    let here : slice_get c.args.self.now.seats.items (c.args.worker - 1) ≡ Some seat = seat_found _ _ _ _ _ c.deref.ensures.value c.from.ensures c.in-Some.ensures.lookup.0 c.in-Some.ensures.lookup.1 in
    let reply = reply_for p c.args.answers.now seat in
    let said = told_answer p c.args.answers.now seat c.awaited.result c.answer-answer.result c.awaited.ensures c.answer-answer.ensures in
    let task = told_task p reply seat c.answer-answer.result c.decided-task.result said c.decided-task.ensures in
    let not_zero : c.args.worker ≢ 0 = grind arith in
    let step = work_is p c.args.answers.now s c.args.worker c.args.action seat not_zero here ∙ after_direct p s (c.args.worker - 1) c.args.action reply seat here in
    subst (λ (o : Option State). IsAnswered c.args.self.now o c.act.result c.act.new.self) (told_row p s (c.args.worker - 1) reply seat c.answer-answer.result c.decided-task.result c.args.action said task ∙ sym step) c.act.ensures

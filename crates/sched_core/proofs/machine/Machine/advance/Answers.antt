-- The worker's next step is the schedule's; no node below the new number is open then, and less is left to do.
use Rattle.std.proofs.Common.{◌∙◌, sym, subst, refl}
use Rattle.scheduling.specs.declared.step.Action.TheVariants.{Look}
use Rattle.scheduling.specs.declared.task.Task.{Task}
use Rattle.sched_core.proofs.Progress.{finds_open}
use Rattle.sched_core.specs.Statuses.{IsSomeOpen}
use Rattle.sched_core.specs.Inside.Bounds.{InBounds}
use Rattle.sched_core.specs.Inside.Fields.{state_of, seated}
use Rattle.sched_core.specs.Replies.{reply_of, replies_of}
use Rattle.sched_core.specs.Steps.{reply_for}
use Rattle.sched_core.proofs.InRange.{bounds, undecided}
use Rattle.sched_core.proofs.Knowing.{told_answer, told_task}
use Rattle.sched_core.proofs.OneWorker.{only_seat, acted}
use Rattle.sched_core.proofs.machine.Machine.advance.Goals as goal

pub awaited-requires-clause-task : goal.awaited-requires-clause-task
awaited-requires-clause-task c =
    let seat = c.index-seat.result.now in
    (undecided c.args.plan.now c.args.answers.now c.args.self.now c.requires.sound 0 seat (only_seat c.args.plan.now c.args.answers.now c.args.self.now c.requires.going seat c.index-seat.ensures) Look).inside

pub awaited-requires-clause-hand : goal.awaited-requires-clause-hand
awaited-requires-clause-hand c =
    let seat = c.index-seat.result.now in
    (undecided c.args.plan.now c.args.answers.now c.args.self.now c.requires.sound 0 seat (only_seat c.args.plan.now c.args.answers.now c.args.self.now c.requires.going seat c.index-seat.ensures) Look).hand

pub decided-task-requires-clause-inside : goal.decided-task-requires-clause-inside
decided-task-requires-clause-inside c =
    let seat = c.index-seat.result.now in
    (undecided c.args.plan.now c.args.answers.now c.args.self.now c.requires.sound 0 seat (only_seat c.args.plan.now c.args.answers.now c.args.self.now c.requires.going seat c.index-seat.ensures) Look).inside

pub next_step-action-requires-clause-inside : goal.next_step-action-requires-clause-inside
next_step-action-requires-clause-inside c h held =
    let seat = c.index-seat.result.now in
    ((bounds c.args.plan.now c.args.answers.now c.args.self.now c.requires.sound 0 seat (only_seat c.args.plan.now c.args.answers.now c.args.self.now c.requires.going seat c.index-seat.ensures) Look).hand h held).inside

pub next_step-action-requires-clause-factory : goal.next_step-action-requires-clause-factory
next_step-action-requires-clause-factory c h held =
    let seat = c.index-seat.result.now in
    ((bounds c.args.plan.now c.args.answers.now c.args.self.now c.requires.sound 0 seat (only_seat c.args.plan.now c.args.answers.now c.args.self.now c.requires.going seat c.index-seat.ensures) Look).hand h held).factory

pub next_step-action-requires-clause-some : goal.next_step-action-requires-clause-some
next_step-action-requires-clause-some c free empty =
    let p = c.args.plan.now in
    let answers = c.args.answers.now in
    let s = state_of c.args.self.now in
    let seat = c.index-seat.result.now in
    let reply = reply_for p answers seat in
    let at = only_seat p answers c.args.self.now c.requires.going seat c.index-seat.ensures in
    let said = told_answer p answers seat c.awaited.result c.answer-answer.result c.awaited.ensures c.answer-answer.ensures in
    let task = told_task p reply seat c.answer-answer.result c.decided-task.result said c.decided-task.ensures in
    subst IsSomeOpen (sym c.as_slice-statuses.ensures.value) (finds_open p c.requires.sound.plan (reply_of answers) (replies_of answers) (λ job. refl) s c.requires.going seat at reply (sym task ∙ free) empty c.requires.running)

pub act-requires-clause-bounds : goal.act-requires-clause-bounds
act-requires-clause-bounds c =
    let p = c.args.plan.now in
    let answers = c.args.answers.now in
    let seat = c.index-seat.result.now in
    let reply = reply_for p answers seat in
    let at = only_seat p answers c.args.self.now c.requires.going seat c.index-seat.ensures in
    let said = told_answer p answers seat c.awaited.result c.answer-answer.result c.awaited.ensures c.answer-answer.ensures in
    let task = told_task p reply seat c.answer-answer.result c.decided-task.result said c.decided-task.ensures in
    subst (λ (t : Task). InBounds p c.args.self.now 0 (seated t seat.hand)) (sym task) (bounds p answers c.args.self.now c.requires.sound 0 seat at c.next_step-action.result.action)

pub returns-clause-sound : goal.returns-clause-sound
returns-clause-sound c = (acted c.args.plan.now c.args.answers.now c.args.self.now c.act.new.self c.requires.sound c.requires.going c.index-seat.result.now c.index-seat.ensures c.awaited.result c.answer-answer.result c.decided-task.result c.next_step-action.result.action c.as_slice-statuses.result.now c.as_slice-statuses.ensures.value c.awaited.ensures c.answer-answer.ensures c.decided-task.ensures c.next_step-action.ensures.action c.act.result c.act.ensures).sound

pub returns-clause-workers : goal.returns-clause-workers
returns-clause-workers c = (acted c.args.plan.now c.args.answers.now c.args.self.now c.act.new.self c.requires.sound c.requires.going c.index-seat.result.now c.index-seat.ensures c.awaited.result c.answer-answer.result c.decided-task.result c.next_step-action.result.action c.as_slice-statuses.result.now c.as_slice-statuses.ensures.value c.awaited.ensures c.answer-answer.ensures c.decided-task.ensures c.next_step-action.ensures.action c.act.result c.act.ensures).workers

pub returns-clause-going : goal.returns-clause-going
returns-clause-going c = (acted c.args.plan.now c.args.answers.now c.args.self.now c.act.new.self c.requires.sound c.requires.going c.index-seat.result.now c.index-seat.ensures c.awaited.result c.answer-answer.result c.decided-task.result c.next_step-action.result.action c.as_slice-statuses.result.now c.as_slice-statuses.ensures.value c.awaited.ensures c.answer-answer.ensures c.decided-task.ensures c.next_step-action.ensures.action c.act.result c.act.ensures).going

pub returns-clause-leads : goal.returns-clause-leads
returns-clause-leads c first leads = (acted c.args.plan.now c.args.answers.now c.args.self.now c.act.new.self c.requires.sound c.requires.going c.index-seat.result.now c.index-seat.ensures c.awaited.result c.answer-answer.result c.decided-task.result c.next_step-action.result.action c.as_slice-statuses.result.now c.as_slice-statuses.ensures.value c.awaited.ensures c.answer-answer.ensures c.decided-task.ensures c.next_step-action.ensures.action c.act.result c.act.ensures).leads first c.requires.unread c.requires.running leads

pub returns-clause-less : goal.returns-clause-less
returns-clause-less c = (acted c.args.plan.now c.args.answers.now c.args.self.now c.act.new.self c.requires.sound c.requires.going c.index-seat.result.now c.index-seat.ensures c.awaited.result c.answer-answer.result c.decided-task.result c.next_step-action.result.action c.as_slice-statuses.result.now c.as_slice-statuses.ensures.value c.awaited.ensures c.answer-answer.ensures c.decided-task.ensures c.next_step-action.ensures.action c.act.result c.act.ensures).less

pub returns-clause-none_below : goal.returns-clause-none_below
returns-clause-none_below c =
    let acts = (acted c.args.plan.now c.args.answers.now c.args.self.now c.act.new.self c.requires.sound c.requires.going c.index-seat.result.now c.index-seat.ensures c.awaited.result c.answer-answer.result c.decided-task.result c.next_step-action.result.action c.as_slice-statuses.result.now c.as_slice-statuses.ensures.value c.awaited.ensures c.answer-answer.ensures c.decided-task.ensures c.next_step-action.ensures.action c.act.result c.act.ensures) in
    c.next_step-action.ensures.none_below (state_of c.args.self.now) (state_of c.act.new.self) (reply_for c.args.plan.now c.args.answers.now c.index-seat.result.now) (sym c.as_slice-statuses.ensures.value) acts.row_is

-- What is told by the kind of the event, and by whether a text stands.
use Rattle.std.proofs.Common.{Option, Some, ap, sym, ◌∙◌}
use Rattle.std.specs.Option.{option_or}
use Rattle.std.proofs.lemmas.Result.{IfOk-weaker}
use Rattle.plan_events.specs.declared.note.Note.{Note}
use Rattle.sched_core.specs.Replies.{reply_of}
use Rattle.sched_core.specs.Texts.{jobs_note, note_of}
use Rattle.sched_core.proofs.Notes.{tells_nothing, tells_skip, tells_over, tells_first}
use Rattle.sched_core.proofs.text.told.Goals as goal

pub returns-in-Started : goal.returns-in-Started
returns-in-Started c h are = tells_nothing c.args.plan.now c.args.answers.now h c.args.event.now c.in-Started.is

pub returns-in-Skipped : goal.returns-in-Skipped
returns-in-Skipped c h are = tells_skip c.args.plan.now c.args.answers.now h c.args.event.now c.in-Skipped.is ∙ ap Some (sym c.skip_note.ensures.note)

pub returns-then-is_some : goal.returns-then-is_some
returns-then-is_some c h are =
    tells_over c.args.plan.now c.args.answers.now h c.args.texts.now are c.args.event.now c.of.result c.requires c.in-Finished.is (sym c.is_some.ensures ∙ c.if-is_some.true) c.of.ensures.none

pub returns-else-is_some : goal.returns-else-is_some
returns-else-is_some c =
    let p = c.args.plan.now in
    let answers = c.args.answers.now in
    let e = c.args.event.now in
    IfOk-weaker c.jobs_note.result _ _
    (λ told is h are.
    tells_first p answers h c.args.texts.now are e c.of.result c.requires c.in-Finished.is (sym c.is_some.ensures ∙ c.if-is_some.false) c.of.ensures.none
    ∙ ap (λ (note : Option Note). option_or note (note_of p answers h e.node)) (sym (is ∙ ap (jobs_note (reply_of answers)) c.jobs_of.ensures)))
    c.jobs_note.ensures

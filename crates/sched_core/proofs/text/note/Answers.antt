-- One more event: what the notes are after it.
use Rattle.std.proofs.Common.{◌≤◌, ◌<◌, ◌∙◌, Option, arith, ap}
use Rattle.std.specs.Option.{option_or}
use Rattle.descriptor.specs.Nodes.{size}
use Rattle.plan_events.specs.declared.note.Note.{Note}
use Rattle.sched_core.specs.Texts.{note_of}
use Rattle.sched_core.proofs.Notes.{texts_past, texts_same, texts_more}
use Rattle.sched_core.proofs.text.note.Goals as goal

pub returns-then-index-len : goal.returns-then-index-len
returns-then-index-len c h are =
    let past : size c.args.plan.now.tree ≤ c.args.event.now.node = omega (arith, c.if-index-len.true, c.index.ensures.same, c.len.ensures.len, ap size c.tree.ensures.same) in
    texts_past c.args.plan.now c.args.answers.now h c.args.texts.now are c.args.event.now past

pub returns-in-Some : goal.returns-in-Some
returns-in-Some c h are =
    let p = c.args.plan.now in
    let answers = c.args.answers.now in
    let e = c.args.event.now in
    let inside : e.node < size p.tree = omega (arith, c.if-index-len.false, c.index.ensures.same, c.len.ensures.len, ap size c.tree.ensures.same) in
    texts_more p answers h c.args.texts.now are e c.set.new.self c.in-Some.note inside
    (c.in_ok-note.ensures h are ∙ ap (λ (note : Option Note). option_or note (note_of p answers h e.node)) c.in-Some.is) c.set.ensures.notes c.set.ensures.reasons

pub returns-in_default : goal.returns-in_default
returns-in_default c h are =
    let p = c.args.plan.now in
    let answers = c.args.answers.now in
    let e = c.args.event.now in
    texts_same p answers h c.args.texts.now are e (c.in_ok-note.ensures h are ∙ ap (λ (note : Option Note). option_or note (note_of p answers h e.node)) c.in_default.is)

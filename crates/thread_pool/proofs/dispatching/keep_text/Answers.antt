use Rattle.std.proofs.Common.{◌≡◌, ◌∙◌, ◌<◌, List, arith, sym, ap, subst}
use Rattle.descriptor.specs.Nodes.{size}
use Rattle.plan_events.specs.declared.event.Event.{Event}
use Rattle.resource_locks.specs.Plans.{PlanParts}
use Rattle.table_rule.specs.Picture.{replies_of}
use Rattle.table_rule.specs.Plays.{dispatcher}
use Rattle.run_table.specs.Notes.{IsNoteOf}
use Rattle.run_table.proofs.Facts.{plan_is}
use Rattle.thread_pool.specs.Telling.{AreTextsRead}
use Rattle.thread_pool.proofs.Carried.{carried}
use Rattle.thread_pool.proofs.TextsRead.{texts_past, texts_same, texts_none, texts_skip, texts_note, finish_has, skip_is, read_alike, text_other}
use Rattle.thread_pool.proofs.dispatching.keep_text.Goals as goal

pub returns-then-index-len-clause-texts : goal.returns-then-index-len-clause-texts
returns-then-index-len-clause-texts g c =
    let dispatcher_seat = c.args.dispatcher_seat.now in
    let m = dispatcher_seat.seat.me.0 in
    let p = m.about.plan in
    let replies = replies_of g.B.Job.answers m.about in
    let last = c.requires.last in
    let plan = plan_is _ _ _ dispatcher_seat.seat c.args.table.now.fitting c.requires.seat in
    let size_is : c.len.result ≡ size p.tree = c.len.ensures.len ∙ ap size (c.tree.ensures.same ∙ ap (λ (q : PlanParts). q.tree) (c.plan.ensures ∙ sym plan)) in
    carried last.1 (λ (h : List Event). AreTextsRead p replies (dispatcher m).slots h c.args.texts.now) (texts_past p replies last.0 c.args.event (dispatcher m).slots c.args.texts.now last.2 (omega (arith, size_is, c.if-index-len.true, c.index.ensures.same)))

pub returns-in-Started-clause-texts : goal.returns-in-Started-clause-texts
returns-in-Started-clause-texts g c =
    let m = c.args.dispatcher_seat.now.seat.me.0 in
    let p = m.about.plan in
    let replies = replies_of g.B.Job.answers m.about in
    let last = c.requires.last in
    carried last.1 (λ (h : List Event). AreTextsRead p replies (dispatcher m).slots h c.args.texts.now) (texts_same p replies last.0 c.args.event (dispatcher m).slots c.args.texts.now last.2 c.in-Started.is)

pub returns-in-Skipped-clause-texts : goal.returns-in-Skipped-clause-texts
returns-in-Skipped-clause-texts g c =
    let dispatcher_seat = c.args.dispatcher_seat.now in
    let m = dispatcher_seat.seat.me.0 in
    let p = m.about.plan in
    let replies = replies_of g.B.Job.answers m.about in
    let last = c.requires.last in
    let e = c.args.event in
    let plan = plan_is _ _ _ dispatcher_seat.seat c.args.table.now.fitting c.requires.seat in
    let size_is : c.len.result ≡ size p.tree = c.len.ensures.len ∙ ap size (c.tree.ensures.same ∙ ap (λ (q : PlanParts). q.tree) (c.plan.ensures ∙ sym plan)) in
    let inside : e.node < size p.tree = omega (arith, size_is, c.if-index-len.false, c.index.ensures.same) in
    carried last.1 (λ (h : List Event). AreTextsRead p replies (dispatcher m).slots h c.set.new.self)
    (texts_skip p replies last.0 e (dispatcher m).slots c.args.texts.now last.2 c.set.new.self c.skip_note.result inside c.set.ensures.notes c.set.ensures.reasons c.in-Skipped.is (skip_is c.plan-in-Skipped.result.now p e.node c.skip_note.result (c.plan-in-Skipped.ensures ∙ sym plan) c.skip_note.ensures.text))

pub returns-in-Some-clause-texts : goal.returns-in-Some-clause-texts
returns-in-Some-clause-texts g c =
    let dispatcher_seat = c.args.dispatcher_seat.now in
    let m = dispatcher_seat.seat.me.0 in
    let p = m.about.plan in
    let replies = replies_of g.B.Job.answers m.about in
    let last = c.requires.last in
    let e = c.args.event in
    let plan = plan_is _ _ _ dispatcher_seat.seat c.args.table.now.fitting c.requires.seat in
    let size_is : c.len.result ≡ size p.tree = c.len.ensures.len ∙ ap size (c.tree.ensures.same ∙ ap (λ (q : PlanParts). q.tree) (c.plan.ensures ∙ sym plan)) in
    let inside : e.node < size p.tree = omega (arith, size_is, c.if-index-len.false, c.index.ensures.same) in
    let note : IsNoteOf p replies (dispatcher m).read e.node c.in-Some.note = c.in-Some.ensures.text in
    let next = c.text_out.new.self.seat.me.0 in
    let is = texts_note p replies last.0 e (dispatcher m).slots c.args.texts.now last.2 c.set-in-Some.new.self c.in-Some.note inside c.set-in-Some.ensures.notes c.set-in-Some.ensures.reasons (dispatcher next).slots c.in-Finished.is
    (subst (λ (h : List Event). IsNoteOf p replies h e.node c.in-Some.note) last.1 note) c.in-Some.ensures.taken_of c.in-Some.ensures.takes.others in
    carried c.text_out.ensures.same.about (λ a. AreTextsRead a.plan (replies_of g.B.Job.answers a) (dispatcher next).slots (dispatcher next).read c.set-in-Some.new.self)
    (carried c.in-Some.ensures.takes.read (λ (h : List Event). AreTextsRead p replies (dispatcher next).slots h c.set-in-Some.new.self)
    (carried last.1 (λ (h : List Event). AreTextsRead p replies (dispatcher next).slots h c.set-in-Some.new.self) is))

pub returns-in_default-clause-texts : goal.returns-in_default-clause-texts
returns-in_default-clause-texts g c =
    let dispatcher_seat = c.args.dispatcher_seat.now in
    let m = dispatcher_seat.seat.me.0 in
    let p = m.about.plan in
    let replies = replies_of g.B.Job.answers m.about in
    let last = c.requires.last in
    let e = c.args.event in
    let plan = plan_is _ _ _ dispatcher_seat.seat c.args.table.now.fitting c.requires.seat in
    let size_is : c.len.result ≡ size p.tree = c.len.ensures.len ∙ ap size (c.tree.ensures.same ∙ ap (λ (q : PlanParts). q.tree) (c.plan.ensures ∙ sym plan)) in
    let inside : e.node < size p.tree = omega (arith, size_is, c.if-index-len.false, c.index.ensures.same) in
    read_alike g.B.Job.answers m c.text_out.new.self.seat.me.0 c.args.texts.now c.text_out.ensures.same.about (ap (λ me. (dispatcher me.0).read) c.in_default.ensures.kept) (ap (λ me. (dispatcher me.0).slots) c.in_default.ensures.kept)
    (carried last.1 (λ (h : List Event). AreTextsRead p replies (dispatcher m).slots h c.args.texts.now)
    (texts_none p replies last.0 e (dispatcher m).slots c.args.texts.now last.2 c.in-Finished.is
    (c.in_default.ensures.none inside (finish_has last.0 e (dispatcher m).read last.1 c.in-Finished.is) (c.requires.untaken c.in-Finished.is))))

pub returns-in-Skipped-clause-others : goal.returns-in-Skipped-clause-others
returns-in-Skipped-clause-others g c = text_other c.args.event.node c.args.texts.now c.set.new.self c.skip_note.result c.set.ensures.notes c.set.ensures.reasons

pub returns-in-Some-clause-others : goal.returns-in-Some-clause-others
returns-in-Some-clause-others g c = text_other c.args.event.node c.args.texts.now c.set-in-Some.new.self c.in-Some.note c.set-in-Some.ensures.notes c.set-in-Some.ensures.reasons

pub returns-in-Skipped-clause-silent : goal.returns-in-Skipped-clause-silent
returns-in-Skipped-clause-silent g c finish skip = absurd (skip c.in-Skipped.is)

pub returns-in-Some-clause-silent : goal.returns-in-Some-clause-silent
returns-in-Some-clause-silent g c finish skip = absurd (finish c.in-Finished.is)

-- One more event gone through; and in a legal history, in which each job has one reply, the texts are those of the replies.
use Rattle.std.proofs.Common.{◌≡◌, ◌<◌, ◌+◌, ◌++◌, ◌∷◌, [], ◌∙◌, arith, ap, sym, List, take, length, subst}
use Rattle.std.proofs.lemmas.List.{take_more, take_all}
use Rattle.plan_events.specs.declared.event.Event.{Event}
use Rattle.sched_core.specs.Texts.{AreTexts}
use Rattle.sched_core.proofs.Notes.{texts_decided}
use Rattle.sched_core.proofs.text.texts_of.Goals as goal

pub loop-event-preserved : goal.loop-event-preserved
loop-event-preserved c =
    let i = c.loop-event.event-index in
    let inside : i < length c.args.events.now = grind arith in
    let split : take i c.args.events.now ++ c.event-item.result ∷ [] ≡ take (i + 1) c.args.events.now = ap (λ (x : Event). take i c.args.events.now ++ x ∷ []) c.event-item.is ∙ sym (take_more c.args.events.now i c.event-item.result inside) in
    subst (λ (h : List Event). AreTexts c.args.plan.now c.args.answers.now h c.note.new.texts) split (c.in_ok-note.ensures (take i c.args.events.now) c.loop-event.invariant)

pub returns-clause-deciding : goal.returns-clause-deciding
returns-clause-deciding c =
    let p = c.args.plan.now in
    let whole : take c.loop-event.event-index c.args.events.now ≡ c.args.events.now = take_all c.loop-event.event-index c.args.events.now c.loop-event-test.false in
    texts_decided p c.args.answers.now c.args.events.now c.loop-event.texts
    (subst (λ (h : List Event). AreTexts p c.args.answers.now h c.loop-event.texts) whole c.loop-event.invariant) c.tree.ensures.tree

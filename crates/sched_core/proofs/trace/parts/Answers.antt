-- One more event in its worker's list.
use Rattle.std.proofs.Common.{◌≡◌, ◌<◌, ◌+◌, ◌++◌, ◌∷◌, [], ◌∙◌, arith, ap, sym, List, take, length, subst}
use Rattle.std.proofs.lemmas.List.{take_more}
use Rattle.plan_events.specs.declared.event.Event.{Event}
use Rattle.sched_core.specs.Inside.Fields.{parts_upto}
use Rattle.sched_core.specs.Traces.{lists_of}
use Rattle.sched_core.proofs.trace.parts.Goals as goal

pub loop-event-preserved : goal.loop-event-preserved
loop-event-preserved c =
    let i = c.loop-event.event-index in
    let inside : i < length c.args.events.now = grind arith in
    let split : take i c.args.events.now ++ c.event-item.result ∷ [] ≡ take (i + 1) c.args.events.now = ap (λ (x : Event). take i c.args.events.now ++ x ∷ []) c.event-item.is ∙ sym (take_more c.args.events.now i c.event-item.result inside) in
    subst (λ (h : List Event). lists_of c.put.new.lists ≡ parts_upto c.args.workers h) split (c.in_ok-put.ensures c.args.workers (take i c.args.events.now) c.loop-event.invariant)

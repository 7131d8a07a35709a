-- At first nothing is told; then one event more.
use Rattle.std.proofs.Common.{◌∙◌, length, ap, sym, arith}
use Rattle.std.proofs.lemmas.List.{length-replicate}
use Rattle.run_results.specs.Told.{nothing}
use Rattle.run_results.proofs.ToldMore.{none_told, told_next}
use Rattle.run_results.proofs.told.node_events.Goals as goal

pub loop-event-init : goal.loop-event-init
loop-event-init c =
    let none = c.in_ok-told.ensures.items_if_clones_equal (λ y h. h) in
    (ap length none ∙ length-replicate c.args.nodes nothing, none ∙ sym (none_told c.args.nodes))

pub loop-event-preserved : goal.loop-event-preserved
loop-event-preserved c =
    told_next c.args.nodes c.loop-event.event-index c.args.events.now c.event-item.result c.loop-event.told.items c.note.new.told.items
    c.loop-event.invariant.0 c.loop-event.invariant.1 (omega arith) c.event-item.is c.note.ensures.places c.note.ensures.more

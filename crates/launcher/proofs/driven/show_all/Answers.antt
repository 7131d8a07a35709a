-- One more event was seen, with its text.
use Rattle.std.proofs.Common.{arith}
use Rattle.std.proofs.lemmas.Grind.{common_steps}
use Rattle.launcher.proofs.Driving.{seen_none, seen_more, seen_all}
use Rattle.launcher.proofs.driven.show_all.Goals as goal

pub loop-event-init : goal.loop-event-init
loop-event-init g c = seen_none g.V.Observer.saw c.args.plan.now c.args.texts.now c.args.events.now c.args.observer.now

pub loop-event-preserved : goal.loop-event-preserved
loop-event-preserved g c =
    seen_more g.V.Observer.saw c.args.plan.now c.args.texts.now c.args.events.now c.loop-event.event-index c.event-item.result c.args.observer.now c.loop-event.observer c.show.new.observer c.loop-event-test.true c.event-item.is c.loop-event.invariant c.show.ensures

pub returns : goal.returns
returns g c = seen_all g.V.Observer.saw c.args.plan.now c.args.texts.now c.args.events.now c.loop-event.event-index c.args.observer.now c.loop-event.observer (grind (arith, common_steps)) c.loop-event.invariant

-- One more event is told to each, with its text.
use Rattle.std.proofs.Common.{◌∙◌, length, refl, arith}
use Rattle.std.proofs.lemmas.Grind.{common_steps}
use Rattle.listeners.proofs.Retelling.{told_none, told_more, room_less, smaller_none, smaller_more}
use Rattle.listeners.proofs.Stepping.{heard_none, heard_more, heard_all}
use Rattle.listeners.proofs.audience.Audience.tell_all.Goals as goal

pub loop-event-init : goal.loop-event-init
loop-event-init g c = record {
  len = refl;
  got = told_none _ c.args.events.now c.args.self.now.listeners.items;
  heard = heard_none (λ b. g.L.Listener.heard b) c.args.texts.now c.args.events.now c.args.self.now.listeners.items;
  smaller = smaller_none _ c.args.self.now.listeners.items;
  room = λ k d within. let fits = c.requires k d within in omega (arith, fits);
}

pub loop-event-preserved : goal.loop-event-preserved
loop-event-preserved g c = record {
  len = c.tell.ensures.len ∙ c.loop-event.invariant.len;
  got = told_more _ c.args.events.now c.loop-event.event-index c.event-item.result c.args.self.now.listeners.items c.loop-event.self.listeners.items c.tell.new.self.listeners.items c.loop-event.invariant.got c.loop-event-test.true c.event-item.is c.tell.ensures.got;
  heard = heard_more (λ b. g.L.Listener.heard b) c.args.texts.now c.args.events.now c.loop-event.event-index c.event-item.result _ c.args.self.now.listeners.items c.loop-event.self.listeners.items c.tell.new.self.listeners.items c.loop-event.invariant.len c.loop-event-test.true c.event-item.is c.text_with.ensures c.loop-event.invariant.heard c.tell.ensures.heard;
  smaller = smaller_more _ c.loop-event.event-index c.args.self.now.listeners.items c.loop-event.self.listeners.items c.tell.new.self.listeners.items c.loop-event.invariant.smaller c.tell.ensures.room;
  room = room_less _ (length c.args.events.now) c.loop-event.event-index c.loop-event.self.listeners.items c.tell.new.self.listeners.items c.loop-event-test.true c.tell.ensures.room c.loop-event.invariant.room;
}

pub returns-clause-heard : goal.returns-clause-heard
returns-clause-heard g c = heard_all (λ b. g.L.Listener.heard b) c.args.texts.now c.args.events.now c.loop-event.event-index c.args.self.now.listeners.items c.loop-event.self.listeners.items (grind (arith, common_steps)) c.loop-event.invariant.heard

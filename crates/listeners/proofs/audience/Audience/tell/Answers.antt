-- The next listener has room, as it had at first, and is told.
use Rattle.std.proofs.Common.{◌-◌, ◌++◌, ◌∷◌, [], List, arith}
use Rattle.std.proofs.lemmas.Grind.{common_steps}
use Rattle.plan_events.specs.declared.event.Event.{Event}
use Rattle.listeners.proofs.Hearing.{next_has_room, changed_none, changed_more, changed_all, all_changed, all_with_room}
use Rattle.listeners.proofs.Stepping.{stepped_none, stepped_more, stepped_all}
use Rattle.listeners.proofs.audience.Audience.tell.Goals as goal

pub told-requires : goal.told-requires
told-requires g c =
    next_has_room c.args.self.now.listeners.items c.loop-index.self.listeners.items (λ b. g.L.Listener.room b) (λ n. n - 1) c.loop-index.index c.index_mut.result.now c.loop-index.invariant.room (grind (arith, common_steps)) c.index_mut.ensures.value c.requires

pub loop-index-init : goal.loop-index-init
loop-index-init g c = record {
  got = changed_none _ _ c.args.self.now.listeners.items;
  heard = stepped_none _ c.args.self.now.listeners.items;
  room = changed_none _ _ c.args.self.now.listeners.items;
}

pub loop-index-preserved : goal.loop-index-preserved
loop-index-preserved g c = record {
  got = changed_more _ _ c.loop-index.index c.args.self.now.listeners.items c.loop-index.self.listeners.items c.index_mut.result.now c.told.new.self c.loop-index.invariant.got (grind (arith, common_steps)) c.index_mut.ensures.value c.told.ensures.got;
  heard = stepped_more _ c.args.self.now.listeners.items c.loop-index.index c.loop-index.self.listeners.items c.index_mut.result.now c.told.new.self c.loop-index.invariant.heard (grind (arith, common_steps)) c.index_mut.ensures.value c.told.ensures.heard;
  room = changed_more _ _ c.loop-index.index c.args.self.now.listeners.items c.loop-index.self.listeners.items c.index_mut.result.now c.told.new.self c.loop-index.invariant.room (grind (arith, common_steps)) c.index_mut.ensures.value (omega (arith, c.told.ensures.room));
}

pub returns-clause-len : goal.returns-clause-len
returns-clause-len g c = c.loop-index.invariant.got.same

pub returns-clause-all_got : goal.returns-clause-all_got
returns-clause-all_got g c heard =
    all_changed c.args.self.now.listeners.items c.loop-index.self.listeners.items (λ b. g.L.Listener.got b) (λ (old : List Event). old ++ c.args.event ∷ []) heard
    (changed_all _ _ c.loop-index.index c.args.self.now.listeners.items c.loop-index.self.listeners.items (grind (arith, common_steps)) c.loop-index.invariant.got)

pub returns-clause-all_room : goal.returns-clause-all_room
returns-clause-all_room g c n =
    all_with_room c.args.self.now.listeners.items c.loop-index.self.listeners.items (λ b. g.L.Listener.room b) n
    (changed_all _ _ c.loop-index.index c.args.self.now.listeners.items c.loop-index.self.listeners.items (grind (arith, common_steps)) c.loop-index.invariant.room)

pub returns-clause-heard : goal.returns-clause-heard
returns-clause-heard g c = stepped_all _ c.args.self.now.listeners.items c.loop-index.index c.loop-index.self.listeners.items (grind (arith, common_steps)) c.loop-index.invariant.heard

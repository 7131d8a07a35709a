-- Where each had room for the events up to this one, each is told it.
use Rattle.std.proofs.Common.{◌∙◌, ◌∷◌, [], sym, subst}
use Rattle.std.proofs.lemmas.Bool.{false≢true}
use Rattle.listeners.specs.Listeners.{telling, EachPlace, HasHeardMore}
use Rattle.listeners.proofs.Observing.{room_left, seen_one}
use Rattle.listeners.proofs.audience.AudienceObserver.see.Goals as goal

pub returns-then-has_room : goal.returns-then-has_room
returns-then-has_room g c first before seen =
    let now = c.args.self.now.listeners.items in
    let t = telling c.args.texts.now c.args.event in
    seen_one g.L.Listener.got g.L.Listener.room g.L.Listener.heard first.listeners.items now c.tell.new.self.listeners.items before t seen c.tell.ensures.len c.tell.ensures.got c.tell.ensures.room
    (subst (λ text. EachPlace (λ a b. HasHeardMore g.L.Listener.heard (record { event = c.args.event; text = text } ∷ []) a b) now c.tell.new.self.listeners.items) c.text_with.ensures c.tell.ensures.heard)

pub returns-else-has_room : goal.returns-else-has_room
returns-else-has_room g c first before seen wide =
    let t = telling c.args.texts.now c.args.event in
    absurd (false≢true (sym c.if-has_room.false ∙ c.has_room.ensures.1 (room_left g.L.Listener.got g.L.Listener.room g.L.Listener.heard first.listeners.items c.args.self.now.listeners.items before t seen wide)))

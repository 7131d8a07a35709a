-- So far each list is longer by the event and each room smaller by one; the others are as they were.
use Rattle.std.proofs.Common.{◌-◌, ◌++◌, ◌∷◌, [], List}
use Rattle.plan_events.specs.declared.event.Event.{Event}
use Rattle.std.specs.Option.{option_map}
use Rattle.listeners.specs.Listeners.{HasHeardMore}
use Rattle.listeners.proofs.Hearing.{AreChanged}
use Rattle.listeners.proofs.Stepping.{AreStepped}
use Rattle.listeners.proofs.audience.Audience.tell.Given as goal

abbrev pub invariant-loop-index : goal.invariant-loop-index
invariant-loop-index g l = record {
  got : AreChanged (λ b. g.L.Listener.got b) (λ (heard : List Event). heard ++ l.event ∷ []) l.index l.fn.self.listeners.items l.self.listeners.items;
  heard : AreStepped (λ a b. HasHeardMore (λ c. g.L.Listener.heard c) (record { event = l.event; text = option_map (λ t. t.now) l.text } ∷ []) a b) l.index l.fn.self.listeners.items l.self.listeners.items;
  room : AreChanged (λ b. g.L.Listener.room b) (λ n. n - 1) l.index l.fn.self.listeners.items l.self.listeners.items;
}

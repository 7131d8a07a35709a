-- Each was told the events so far with their texts, its room is smaller by them, and it has room for the others.
use Rattle.std.proofs.Common.{◌≡◌, ◌+◌, ◌≤◌, length}
use Rattle.std.specs.List.{All}
use Rattle.listeners.proofs.Retelling.{AreTold, AreSmaller}
use Rattle.listeners.proofs.Stepping.{HaveHeard}
use Rattle.listeners.proofs.audience.Audience.tell_all.Given as goal

abbrev pub invariant-loop-event : goal.invariant-loop-event
invariant-loop-event g l = record {
  len : length l.self.listeners.items ≡ length l.fn.self.listeners.items;
  got : AreTold (λ b. g.L.Listener.got b) l.events l.event-index l.fn.self.listeners.items l.self.listeners.items;
  heard : HaveHeard (λ b. g.L.Listener.heard b) l.texts l.events l.event-index l.fn.self.listeners.items l.self.listeners.items;
  smaller : AreSmaller (λ b. g.L.Listener.room b) l.event-index l.fn.self.listeners.items l.self.listeners.items;
  room : All (λ b. length l.events ≤ g.L.Listener.room b + l.event-index) l.self.listeners.items;
}

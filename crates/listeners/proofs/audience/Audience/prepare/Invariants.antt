-- What each was told stays, no room is smaller, and so far each has room for the events of the plan.
use Rattle.std.proofs.Common.{◌≤◌, []}
use Rattle.resource_locks.specs.Plans.{most_events}
use Rattle.listeners.specs.Listeners.{HasHeardMore}
use Rattle.listeners.proofs.Hearing.{AreReady}
use Rattle.listeners.proofs.Stepping.{AreStepped}
use Rattle.listeners.proofs.audience.Audience.prepare.Given as goal

abbrev pub invariant-loop-index : goal.invariant-loop-index
invariant-loop-index g l = record {
  ready : AreReady (λ b. g.L.Listener.got b) (λ b. most_events l.plan ≤ g.L.Listener.room b) l.index l.fn.self.listeners.items l.self.listeners.items;
  grown : AreStepped (λ a b. g.L.Listener.room a ≤ g.L.Listener.room b) l.index l.fn.self.listeners.items l.self.listeners.items;
  heard : AreStepped (λ a b. HasHeardMore (λ c. g.L.Listener.heard c) [] a b) l.index l.fn.self.listeners.items l.self.listeners.items;
}

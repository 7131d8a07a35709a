-- So far each has room for so many.
use Rattle.std.proofs.Common.{◌≤◌, take}
use Rattle.std.specs.List.{All}
use Rattle.listeners.proofs.audience.Audience.has_room.Given as goal

abbrev pub invariant-loop-listener : goal.invariant-loop-listener
invariant-loop-listener g l = All (λ b. l.wanted ≤ g.L.Listener.room b) (take l.listener-index l.self.listeners.items)

-- So far none was told anything.
use Rattle.std.proofs.Common.{◌≡◌, [], take}
use Rattle.std.specs.List.{All}
use Rattle.listeners.proofs.audience.Audience.fresh.Given as goal

abbrev pub invariant-loop-listener : goal.invariant-loop-listener
invariant-loop-listener g l = All (λ b. g.L.Listener.got b ≡ []) (take l.listener-index l.self.listeners.items)

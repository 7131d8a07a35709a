-- One more has room; in the end all have.
use Rattle.std.proofs.Common.{◌≤◌, refl, rules, arith}
use Rattle.std.proofs.lemmas.Grind.{common_steps}
use Rattle.listeners.proofs.Hearing.{all_more, all_of}
use Rattle.listeners.proofs.audience.Audience.has_room.Goals as goal

pub loop-listener-preserved : goal.loop-listener-preserved
loop-listener-preserved g c =
    all_more c.args.self.now.listeners.items (λ b. c.args.wanted ≤ g.L.Listener.room b) c.deref-listener-items.result.now c.loop-listener.listener-index c.listener-item.result
    c.deref-listener-items.ensures.value (grind (arith, common_steps)) c.listener-item.is (search rules) c.loop-listener.invariant

pub returns : goal.returns
returns g c = (λ _. all_of c.args.self.now.listeners.items (λ b. c.args.wanted ≤ g.L.Listener.room b) c.loop-listener.listener-index (grind (arith, common_steps)) c.loop-listener.invariant, λ _. refl)

-- One more was told nothing; in the end none was told anything.
use Rattle.std.proofs.Common.{◌≡◌, [], refl, rules, arith}
use Rattle.std.proofs.lemmas.Grind.{common_steps}
use Rattle.listeners.proofs.Hearing.{all_more, all_of}
use Rattle.listeners.proofs.audience.Audience.fresh.Goals as goal

pub loop-listener-preserved : goal.loop-listener-preserved
loop-listener-preserved g c =
    all_more c.args.self.now.listeners.items (λ b. g.L.Listener.got b ≡ []) c.deref-listener-items.result.now c.loop-listener.listener-index c.listener-item.result
    c.deref-listener-items.ensures.value (grind (arith, common_steps)) c.listener-item.is (search rules) c.loop-listener.invariant

pub returns : goal.returns
returns g c = (λ _. all_of c.args.self.now.listeners.items (λ b. g.L.Listener.got b ≡ []) c.loop-listener.listener-index (grind (arith, common_steps)) c.loop-listener.invariant, λ _. refl)

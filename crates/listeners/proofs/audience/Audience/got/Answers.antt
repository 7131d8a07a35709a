-- The listener is the one at the place.
use Rattle.listeners.proofs.Hearing.{found_there, is_inside}
use Rattle.listeners.proofs.audience.Audience.got.Goals as goal

pub returns-clause-some : goal.returns-clause-some
returns-clause-some g c =
    found_there (λ b. g.L.Listener.got b) c.args.self.now.listeners.items c.deref.result.now c.args.place c.in_ok-listener.listener.now c.got.result.now
    c.deref.ensures.value c.in_ok-listener.ensures.lookup.0 c.in_ok-listener.ensures.lookup.1 c.got.ensures

pub returns-clause-none : goal.returns-clause-none
returns-clause-none g c = is_inside c.args.self.now.listeners.items c.deref.result.now c.args.place c.deref.ensures.value c.in_ok-listener.ensures.lookup.0

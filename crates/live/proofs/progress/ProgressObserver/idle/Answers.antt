-- What is drawn stands behind what was there.
use Rattle.live.proofs.Drawing.{follows_as_much}
use Rattle.live.proofs.progress.ProgressObserver.idle.Goals as goal

pub returns-then-not-self : goal.returns-then-not-self
returns-then-not-self g c p first seen was =
    let at_slow = follows_as_much g.E.Write.contents p first c.args.self.now c.name_slow.new.self seen was c.name_slow.ensures.drawn c.name_slow.ensures.failures c.name_slow.ensures.running in
    follows_as_much g.E.Write.contents p first c.name_slow.new.self c.draw.new.self seen at_slow c.draw.ensures.drawn c.draw.ensures.failures c.draw.ensures.running

pub returns-else-not-self : goal.returns-else-not-self
returns-else-not-self g c p first seen was = follows_as_much g.E.Write.contents p first c.args.self.now c.name_slow.new.self seen was c.name_slow.ensures.drawn c.name_slow.ensures.failures c.name_slow.ensures.running

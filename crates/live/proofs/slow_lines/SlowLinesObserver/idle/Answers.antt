-- What is written stands behind what was there.
use Rattle.std.proofs.Common.{refl}
use Rattle.live.proofs.SlowWriting.{named_on, same_on}
use Rattle.live.proofs.slow_lines.SlowLinesObserver.idle.Goals as goal

pub returns : goal.returns
returns g c p first seen was =
    let still = same_on g.E.Write.contents p first c.args.self.now _ seen was refl refl refl in
    named_on g.E.Write.contents p first _ c.name_next.new.self seen still c.name_next.ensures

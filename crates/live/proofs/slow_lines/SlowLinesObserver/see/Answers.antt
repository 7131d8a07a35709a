-- What is noted is told, and what is written stands behind what was there.
use Rattle.std.proofs.Common.{◌∷◌, ◌++◌, []}
use Rattle.listeners.specs.Listeners.{telling}
use Rattle.live.proofs.SlowWriting.{named_on, noted_on}
use Rattle.live.proofs.slow_lines.SlowLinesObserver.see.Goals as goal

pub returns : goal.returns
returns g c first before was =
    let contents = g.E.Write.contents in
    let p = c.args.plan.now in
    let t = telling c.args.texts.now c.args.event in
    let noted = noted_on contents p first c.args.self.now c.note.new.self before was t c.note.ensures.errors c.note.ensures.over c.note.ensures.tests in
    named_on contents p first c.note.new.self c.name_next.new.self (before ++ t ∷ []) noted c.name_next.ensures

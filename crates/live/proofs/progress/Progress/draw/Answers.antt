-- The line is drawn, or nothing was done.
use Rattle.std.proofs.Common.{◌∙◌}
use Rattle.live.proofs.Drawing.{drawn_more, left, still_going}
use Rattle.live.specs.Terminals.{Drawn}
use Rattle.live.proofs.progress.Progress.draw.Goals as goal

pub returns-in-Some-clause-drawn : goal.returns-in-Some-clause-drawn
returns-in-Some-clause-drawn g c =
    let line = c.in-Some.ensures.line in
    drawn_more g.E.Write.contents c.args.self.now _ c.show.new.self (left g.E.Write.contents c.args.self.now _ c.in-Some.ensures.terminal (still_going c.args.self.now.is_over c.args.self.now.is_drawn c.requires.going))
    (c.show.ensures.drawn (Drawn line.0) (c.as_str.ensures.value ∙ line.1))

pub returns-in_default-clause-drawn : goal.returns-in_default-clause-drawn
returns-in_default-clause-drawn g c = left g.E.Write.contents c.args.self.now c.next_line.new.self c.in_default.ensures.terminal (still_going c.args.self.now.is_over c.args.self.now.is_drawn c.requires.going)

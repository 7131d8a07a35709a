-- The line is erased, or none stood there.
use Rattle.std.proofs.Common.{refl}
use Rattle.live.proofs.Drawing.{drawn_more, left, still_done}
use Rattle.live.specs.Terminals.{Erased}
use Rattle.live.proofs.progress.Progress.erase.Goals as goal

pub returns-then-self-clause-drawn : goal.returns-then-self-clause-drawn
returns-then-self-clause-drawn g c =
    let shown = c.show.ensures.drawn Erased refl in
    drawn_more g.E.Write.contents c.args.self.now c.show.new.self _ shown (left g.E.Write.contents c.show.new.self _ refl (still_done c.show.new.self.is_over c.show.new.self.is_drawn))

pub returns-else-self-clause-drawn : goal.returns-else-self-clause-drawn
returns-else-self-clause-drawn g c = left g.E.Write.contents c.args.self.now c.args.self.now refl (λ done. done)

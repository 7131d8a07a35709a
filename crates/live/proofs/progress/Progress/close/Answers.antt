-- The line is erased for good, or nothing was done.
use Rattle.std.proofs.Common.{refl}
use Rattle.live.proofs.Drawing.{drawn_more, ended, left}
use Rattle.live.proofs.progress.Progress.close.Goals as goal

pub returns-then-is_finished-clause-drawn : goal.returns-then-is_finished-clause-drawn
returns-then-is_finished-clause-drawn g c =
    drawn_more g.E.Write.contents c.args.self.now c.erase.new.self _ c.erase.ensures.drawn (left g.E.Write.contents c.erase.new.self _ refl (ended c.erase.new.self.is_over c.erase.new.self.is_drawn))

pub returns-else-is_finished-clause-drawn : goal.returns-else-is_finished-clause-drawn
returns-else-is_finished-clause-drawn g c = left g.E.Write.contents c.args.self.now c.args.self.now refl (λ done. done)

-- Nothing was done.
use Rattle.std.proofs.Common.{refl}
use Rattle.live.proofs.Drawing.{left}
use Rattle.live.proofs.progress.Progress.redraw.Goals as goal

pub returns-else-not-self-clause-drawn : goal.returns-else-not-self-clause-drawn
returns-else-not-self-clause-drawn g c = left g.E.Write.contents c.args.self.now c.args.self.now refl (λ done. done)

-- One line more stands there, or a part of it, or nothing was done.
use Rattle.std.proofs.Common.{◌∙◌, refl}
use Rattle.live.proofs.Drawing.{drawn_more, left, still_done}
use Rattle.live.specs.Terminals.{Named}
use Rattle.live.proofs.progress.Progress.name_slow.Goals as goal

pub returns-then-self-clause-drawn : goal.returns-then-self-clause-drawn
returns-then-self-clause-drawn g c = left g.E.Write.contents c.args.self.now c.args.self.now refl (λ done. done)

pub returns-in-Some-clause-drawn : goal.returns-in-Some-clause-drawn
returns-in-Some-clause-drawn g c =
    let named = c.in-Some.ensures.some in
    let shown = c.show.ensures.drawn (Named named.0) (c.as_str.ensures.value ∙ named.2) in
    drawn_more g.E.Write.contents c.args.self.now _ _ (left g.E.Write.contents c.args.self.now _ refl (λ done. done))
    (drawn_more g.E.Write.contents _ c.show.new.self _ shown (left g.E.Write.contents c.show.new.self _ refl (still_done c.show.new.self.is_over c.show.new.self.is_drawn)))

pub returns-in_default-clause-drawn : goal.returns-in_default-clause-drawn
returns-in_default-clause-drawn g c = left g.E.Write.contents c.args.self.now _ refl (λ done. done)

-- One line more stands there, or a part of it, and then nothing more is drawn.
use Rattle.std.proofs.Common.{false, refl, true}
use Rattle.live.proofs.Drawing.{shown}
use Rattle.live.proofs.progress.Progress.show.Goals as goal

pub returns-then-not-hand_on-clause-drawn : goal.returns-then-not-hand_on-clause-drawn
returns-then-not-hand_on-clause-drawn g c line is = shown g.E.Write.contents c.args.self.now _ false c.args.text.now refl c.requires.going (λ short. refl) c.if-not-hand_on.ensures line is

pub returns-else-not-hand_on-clause-drawn : goal.returns-else-not-hand_on-clause-drawn
returns-else-not-hand_on-clause-drawn g c line is = shown g.E.Write.contents c.args.self.now _ true c.args.text.now refl c.requires.going (λ short. cc) c.if-not-hand_on.ensures line is

-- The number at which it is goes, and the others are left.
use Rattle.std.proofs.Common.{◌∙◌, sym}
use Rattle.node_sources.proofs.Circles.{left_next}
use Rattle.node_sources.proofs.circle.Circle.next.Goals as goal

pub returns-then-self-clause-some : goal.returns-then-self-clause-some
returns-then-self-clause-some c = sym c.self.view_is ∙ left_next c.self.inside.next c.self.inside.end c.self.inside.below c.if-self.true

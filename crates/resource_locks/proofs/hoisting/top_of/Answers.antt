-- The cases of the step.
use Rattle.std.proofs.Common.{◌<◌, arith}
use Rattle.std.proofs.lemmas.Grind.{common_steps}
use Rattle.resource_locks.proofs.Turns.{top_high}
use Rattle.resource_locks.proofs.hoisting.top_of.Goals as goal

pub parent-requires : goal.parent-requires
parent-requires c = (let h : c.parent-engine.result < c.args.node = c.parent-engine.ensures.smaller in let i = c.requires.inside in omega (arith, h, i))

pub returns-then-engine-eq0 : goal.returns-then-engine-eq0
returns-then-engine-eq0 c = top_high c.args.tree.now c.args.node c.args.above (grind (arith, common_steps))

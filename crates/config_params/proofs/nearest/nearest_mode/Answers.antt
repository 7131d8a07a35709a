-- A node's nearest mode is its own, or else that of its parent, which stands before it.
use Rattle.std.proofs.Common.{arith}
use Rattle.std.proofs.lemmas.Grind.{common_steps}
use Rattle.config_params.proofs.NearestModes.{known_inside, read_nearest}
use Rattle.config_params.proofs.nearest.nearest_mode.Goals as goal

pub bounds-before-index : goal.bounds-before-index
bounds-before-index c = known_inside c.args.before.now c.args.tree.now c.args.node c.index.result c.requires.before (grind (arith, common_steps))

pub returns-in-Some : goal.returns-in-Some
returns-in-Some c =
    read_nearest c.args.before.now c.args.tree.now c.requires.tree c.in-Some.parent c.args.node c.index.result c.mode.result _
    c.in-Some.ensures.parent c.index.ensures.same c.requires.before c.mode.ensures c.or.ensures

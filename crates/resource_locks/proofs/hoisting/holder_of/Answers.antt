-- The cases of the step.
use Rattle.std.proofs.Common.{◌<◌, ◌≤◌, refl, length, get_or, arith}
use Rattle.std.proofs.lemmas.Grind.{common_steps}
use Rattle.descriptor.specs.Nodes.{locks_of}
use Rattle.resource_locks.specs.Declarations.{declared_of}
use Rattle.resource_locks.proofs.Turns.{top_fits, holder_b, holder_c, holder_d, holder_e}
use Rattle.resource_locks.proofs.hoisting.holder_of.Goals as goal

pub bounds-wholes-top : goal.bounds-wholes-top
bounds-wholes-top c =
    let fits = top_fits (declared_of c.args.tree.now) c.node_count.ensures.tree c.args.node c.args.above (get_or c.args.tops.now c.args.node 0) c.args.tops.now c.args.wholes.now c.requires.inside c.requires.tops c.requires.wholes refl in
    let len = c.requires.wholes_len in
    omega (arith, fits, len)

pub returns-then-wholes-top : goal.returns-then-wholes-top
returns-then-wholes-top c =
    holder_b (declared_of c.args.tree.now) c.node_count.ensures.tree c.args.node c.args.above (get_or c.args.tops.now c.args.node 0) c.args.tops.now c.args.wholes.now c.requires.inside c.requires.tops c.requires.wholes refl c.if-top-eq0.false c.if-wholes-top.true

pub returns-then-above-gt0 : goal.returns-then-above-gt0
returns-then-above-gt0 c =
    holder_c (declared_of c.args.tree.now) c.node_count.ensures.tree c.args.node c.args.above (get_or c.args.tops.now c.args.node 0) c.args.tops.now c.args.wholes.now c.requires.inside c.requires.tops c.requires.wholes refl c.if-top-eq0.false c.if-wholes-top.false c.if-above-gt0.true

pub returns-then-locks-gt0 : goal.returns-then-locks-gt0
returns-then-locks-gt0 c =
    let some : 0 < length (locks_of c.args.tree.now c.args.node) = grind (arith, common_steps) in
    holder_d (declared_of c.args.tree.now) c.node_count.ensures.tree c.args.node c.args.above (get_or c.args.tops.now c.args.node 0) c.args.tops.now c.args.wholes.now c.requires.inside c.requires.tops c.requires.wholes refl c.if-top-eq0.false c.if-wholes-top.false c.if-above-gt0.false some

pub returns-else-locks-gt0 : goal.returns-else-locks-gt0
returns-else-locks-gt0 c =
    let none : length (locks_of c.args.tree.now c.args.node) ≤ 0 = grind (arith, common_steps) in
    holder_e (declared_of c.args.tree.now) c.node_count.ensures.tree c.args.node c.args.above (get_or c.args.tops.now c.args.node 0) c.args.tops.now c.args.wholes.now c.requires.inside c.requires.tops c.requires.wholes refl c.if-top-eq0.false c.if-wholes-top.false c.if-above-gt0.false none

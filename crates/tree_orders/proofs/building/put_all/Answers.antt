-- Each turn adds the node at the next place, and at the end all of them are there.
use Rattle.std.proofs.Common.{◌<◌, ◌∙◌, Some, ap, arith, sym}
use Rattle.descriptor.specs.Nodes.{size}
use Rattle.tree_orders.proofs.Growing.{all_grown, put_fits, put_low, put_may, put_more}
use Rattle.tree_orders.proofs.building.put_all.Goals as goal

pub overflow_cast-above : goal.overflow_cast-above
overflow_cast-above c =
    let inside : c.loop-place.place < size c.args.tree.now = omega (arith, c.loop-place-test.true, c.len-place-end.ensures.len) in
    let some : 0 < c.loop-place.place = omega (arith, c.loop-place.auto.place) in
    let low : c.place_in-above.result < 16384 = put_low c.args.tree.now c.requires.tree c.args.order.now c.requires.order c.loop-place.builder c.loop-place.place c.index-order-place.result c.parent.result c.place_in-above.result some inside c.loop-place.invariant c.index-order-place.is c.parent.ensures c.place_in-above.ensures in
    omega arith

pub add-requires-clause-may_take : goal.add-requires-clause-may_take
add-requires-clause-may_take c =
    let inside : c.loop-place.place < size c.args.tree.now = omega (arith, c.loop-place-test.true, c.len-place-end.ensures.len) in
    let some : 0 < c.loop-place.place = omega (arith, c.loop-place.auto.place) in
    put_may c.args.tree.now c.requires.tree c.args.order.now c.requires.order c.loop-place.builder c.loop-place.place c.index-order-place.result c.parent.result c.new.result some inside c.loop-place.invariant c.index-order-place.is c.parent.ensures (c.new.ensures ∙ c.place_in-above.ensures)

pub add-requires-clause-accepted : goal.add-requires-clause-accepted
add-requires-clause-accepted c =
    let inside : c.loop-place.place < size c.args.tree.now = omega (arith, c.loop-place-test.true, c.len-place-end.ensures.len) in
    let some : 0 < c.loop-place.place = omega (arith, c.loop-place.auto.place) in
    put_fits c.args.tree.now c.requires.tree c.args.order.now c.requires.order c.loop-place.builder c.loop-place.place c.index-order-place.result c.parent.result c.new.result some inside c.loop-place.invariant c.index-order-place.is c.parent.ensures (c.new.ensures ∙ c.place_in-above.ensures) c.in_ok-copy.copy (c.node.ensures ∙ ap Some (sym c.in_ok-copy.ensures))

pub loop-place-preserved : goal.loop-place-preserved
loop-place-preserved c =
    let inside : c.loop-place.place < size c.args.tree.now = omega (arith, c.loop-place-test.true, c.len-place-end.ensures.len) in
    let some : 0 < c.loop-place.place = omega (arith, c.loop-place.auto.place) in
    put_more c.args.tree.now c.requires.tree c.args.order.now c.requires.order c.loop-place.builder c.loop-place.place c.index-order-place.result c.parent.result c.new.result some inside c.loop-place.invariant c.index-order-place.is c.parent.ensures (c.new.ensures ∙ c.place_in-above.ensures) c.in_ok-copy.copy c.add.new.builder (c.node.ensures ∙ ap Some (sym c.in_ok-copy.ensures)) c.in_ok-add.ensures

pub returns : goal.returns
returns c = all_grown c.args.tree.now c.requires.tree c.args.order.now c.requires.order c.loop-place.builder c.loop-place.place c.loop-place.invariant (omega (arith, c.loop-place-test.false, c.len-place-end.ensures.len, c.loop-place.auto.place-end))

-- What stands in the list of a node's children is a child.
use Rattle.std.proofs.Common.{◌≡◌, ◌<◌, get_or, length, arith}
use Rattle.std.proofs.lemmas.Grind.{common_steps}
use Rattle.descriptor.specs.Nodes.{IsChild, children_of}
use Rattle.selectors.proofs.Uids.{child_at}
use Rattle.selectors.proofs.names.has_spare.Goals as goal

pub node-requires-clause-above_zero : goal.node-requires-clause-above_zero
node-requires-clause-above_zero c =
    let inside : c.loop-child.child-index < length (children_of c.args.tree.now c.args.node) = grind (arith, common_steps) in
    let here : c.child-item.result ≡ get_or (children_of c.args.tree.now c.args.node) c.loop-child.child-index c.child-item.result = grind (arith, common_steps) in
    let child : IsChild c.args.tree.now c.args.node c.child-item.result = child_at c.args.tree.now c.args.node c.loop-child.child-index c.child-item.result inside here in
    child.above_zero

pub node-requires-clause-inside : goal.node-requires-clause-inside
node-requires-clause-inside c =
    let inside : c.loop-child.child-index < length (children_of c.args.tree.now c.args.node) = grind (arith, common_steps) in
    let here : c.child-item.result ≡ get_or (children_of c.args.tree.now c.args.node) c.loop-child.child-index c.child-item.result = grind (arith, common_steps) in
    let child : IsChild c.args.tree.now c.args.node c.child-item.result = child_at c.args.tree.now c.args.node c.loop-child.child-index c.child-item.result inside here in
    child.inside

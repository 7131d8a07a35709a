-- One child more, which is a node.
use Rattle.std.proofs.Common.{◌≡◌, ◌<◌, get_or, length, arith}
use Rattle.std.proofs.lemmas.Grind.{common_steps}
use Rattle.descriptor.specs.Nodes.{children_of}
use Rattle.junit_report.specs.Cases.{own_case}
use Rattle.junit_report.proofs.Children.{child_inside}
use Rattle.reports.proofs.Growing.{element_more}
use Rattle.junit_report.proofs.cases.push_children.Goals as goal

pub push_own-requires : goal.push_own-requires
push_own-requires c =
    let inside : c.loop-child.child-index < length (children_of c.args.tree.now c.args.node) = grind (arith, common_steps) in
    let here : c.child-item.result ≡ get_or (children_of c.args.tree.now c.args.node) c.loop-child.child-index c.child-item.result = grind (arith, common_steps) in
    child_inside c.args.tree.now c.args.node c.loop-child.child-index c.child-item.result inside here

pub loop-child-preserved : goal.loop-child-preserved
loop-child-preserved c =
    element_more (own_case c.args.tree.now c.args.told.now) c.children-children.result.now c.loop-child.child-index c.child-item.result c.args.cases.now.items
    (omega arith) c.loop-child.invariant (grind (arith, common_steps))

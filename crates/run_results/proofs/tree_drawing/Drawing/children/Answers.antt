-- One child more, if it has a line.
use Rattle.std.proofs.Common.{arith}
use Rattle.run_results.specs.Inside.Drawings.{drawn_by}
use Rattle.run_results.specs.Told.{has_line}
use Rattle.run_results.proofs.Siblings.{passed_more}
use Rattle.run_results.proofs.tree_drawing.Drawing.children.Goals as goal

pub loop-child-preserved : goal.loop-child-preserved
loop-child-preserved c =
    passed_more (λ n. has_line ((drawn_by c.args.self.now).told n)) c.children-children.result.now c.loop-child.child-index c.child-item.result c.loop-child.drawn.items c.push_drawn.new.nodes.items
    (omega arith) c.child-item.is c.loop-child.invariant c.in_ok-push_drawn.ensures

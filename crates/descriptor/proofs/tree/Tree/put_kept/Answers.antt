-- Each turn adds the next kept node, and at the end all of them are there.
use Rattle.std.proofs.Common.{◌≡◌, ◌<◌, ◌-◌, ◌∙◌, arith, get_or, Some}
use Rattle.std.proofs.lemmas.Grind.{common_steps}
use Rattle.descriptor.specs.Nodes.{size, parent_of, node_at}
use Rattle.descriptor.specs.Pruned.{new_number}
use Rattle.descriptor.proofs.Children.{lists_children}
use Rattle.descriptor.proofs.Pruning.{next_number, told_at, taken, not_refused, tree_after, tree_left, numbers_more, kept_at_end, tree_at_end}
use Rattle.descriptor.proofs.tree.Tree.put_kept.Goals.{then-keep-node+in_ok-push_copy, else-keep-node}
use Rattle.descriptor.proofs.tree.Tree.put_kept.Goals as goal

pub push_copy-requires-clause-may_take : goal.push_copy-requires-clause-may_take
push_copy-requires-clause-may_take c =
    let above : 0 < c.loop-node.node = omega (arith, c.loop-node.auto.node) in
    let inside : c.loop-node.node < size c.args.self.now = grind (arith, common_steps) in
    let smaller : parent_of c.args.self.now c.loop-node.node < c.loop-node.node = c.len-node-end.ensures.tree.up c.loop-node.node above inside in
    let before : get_or c.loop-node.numbers.items (parent_of c.args.self.now c.loop-node.node) 0 ≡ new_number c.args.keep.now (parent_of c.args.self.now c.loop-node.node) = c.loop-node.invariant.numbers (parent_of c.args.self.now c.loop-node.node) smaller in
    let at : c.index-then-keep-node.result ≡ parent_of c.args.self.now c.loop-node.node = grind (arith, common_steps) in
    let number : c.index-parent.result.now ≡ get_or c.loop-node.numbers.items (parent_of c.args.self.now c.loop-node.node) 0 = grind (arith, common_steps) in
    taken c.args.self.now c.args.keep.now c.len-node-end.ensures.tree c.requires.closed c.loop-node.tree c.loop-node.node c.index-parent.result.now above inside c.loop-node.invariant.tree c.if-keep-node.true (number ∙ before)

pub push_copy-requires-clause-accepted : goal.push_copy-requires-clause-accepted
push_copy-requires-clause-accepted c =
    let above : 0 < c.loop-node.node = omega (arith, c.loop-node.auto.node) in
    let inside : c.loop-node.node < size c.args.self.now = grind (arith, common_steps) in
    let smaller : parent_of c.args.self.now c.loop-node.node < c.loop-node.node = c.len-node-end.ensures.tree.up c.loop-node.node above inside in
    let before : get_or c.loop-node.numbers.items (parent_of c.args.self.now c.loop-node.node) 0 ≡ new_number c.args.keep.now (parent_of c.args.self.now c.loop-node.node) = c.loop-node.invariant.numbers (parent_of c.args.self.now c.loop-node.node) smaller in
    let at : c.index-then-keep-node.result ≡ parent_of c.args.self.now c.loop-node.node = grind (arith, common_steps) in
    let number : c.index-parent.result.now ≡ get_or c.loop-node.numbers.items (parent_of c.args.self.now c.loop-node.node) 0 = grind (arith, common_steps) in
    let here : c.index-then-keep-node-2.result.now ≡ get_or c.args.self.now.nodes (c.loop-node.node - 1) c.index-then-keep-node-2.result.now = grind (arith, common_steps) in
    let told : node_at c.args.self.now c.loop-node.node ≡ Some c.index-then-keep-node-2.result.now = told_at c.args.self.now c.loop-node.node (c.loop-node.node - 1) c.index-then-keep-node-2.result.now c.len-node-end.ensures.tree inside (omega arith) here in
    not_refused c.args.self.now c.args.keep.now c.len-node-end.ensures.tree c.requires.closed c.loop-node.tree c.loop-node.node c.index-parent.result.now above inside c.loop-node.invariant.tree c.if-keep-node.true (number ∙ before) c.index-then-keep-node-2.result.now told

pub loop-node-preserved : goal.loop-node-preserved
loop-node-preserved c =
    let above : 0 < c.loop-node.node = omega (arith, c.loop-node.auto.node) in
    let inside : c.loop-node.node < size c.args.self.now = grind (arith, common_steps) in
    let smaller : parent_of c.args.self.now c.loop-node.node < c.loop-node.node = c.len-node-end.ensures.tree.up c.loop-node.node above inside in
    let before : get_or c.loop-node.numbers.items (parent_of c.args.self.now c.loop-node.node) 0 ≡ new_number c.args.keep.now (parent_of c.args.self.now c.loop-node.node) = c.loop-node.invariant.numbers (parent_of c.args.self.now c.loop-node.node) smaller in
    record {
      tree = elim c.if-keep-node.branch [
        | then-keep-node+in_ok-push_copy w ↦
            let at : w.index-then-keep-node.result ≡ parent_of c.args.self.now c.loop-node.node = grind (arith, common_steps) in
            let number : w.index-parent.result.now ≡ get_or c.loop-node.numbers.items (parent_of c.args.self.now c.loop-node.node) 0 = grind (arith, common_steps) in
            let here : w.index-then-keep-node-2.result.now ≡ get_or c.args.self.now.nodes (c.loop-node.node - 1) w.index-then-keep-node-2.result.now = grind (arith, common_steps) in
            let told : node_at c.args.self.now c.loop-node.node ≡ Some w.index-then-keep-node-2.result.now = told_at c.args.self.now c.loop-node.node (c.loop-node.node - 1) w.index-then-keep-node-2.result.now c.len-node-end.ensures.tree inside (omega arith) here in
            w.tree-is ∙ tree_after c.args.self.now c.args.keep.now c.len-node-end.ensures.tree c.requires.closed c.loop-node.tree c.loop-node.node w.index-parent.result.now above inside c.loop-node.invariant.tree w.if-keep-node.true (number ∙ before) w.index-then-keep-node-2.result.now w.push_copy.new.self told (grind (arith, common_steps))
        | else-keep-node w ↦ w.tree-is ∙ tree_left c.args.self.now c.args.keep.now c.len-node-end.ensures.tree c.requires.closed c.loop-node.tree c.loop-node.node 0 above inside c.loop-node.invariant.tree w.if-keep-node.false
      ];
      as_many = grind (arith, common_steps);
      numbers = numbers_more c.args.keep.now c.loop-node.node (size c.loop-node.tree) c.loop-node.numbers.items c.push.new.self.items c.loop-node.invariant.as_many (grind (arith, common_steps)) (next_number c.args.self.now c.args.keep.now c.len-node-end.ensures.tree c.requires.closed c.loop-node.tree c.loop-node.node 0 above inside c.loop-node.invariant.tree) c.loop-node.invariant.numbers;
    }

pub returns-clause-kept : goal.returns-clause-kept
returns-clause-kept c = kept_at_end c.args.self.now c.loop-node.tree c.args.keep.now c.loop-node.node c.len-node-end.ensures.tree c.requires.closed c.loop-node.invariant.tree (grind (arith, common_steps))

pub returns-clause-tree : goal.returns-clause-tree
returns-clause-tree c = tree_at_end c.args.self.now c.loop-node.tree c.args.keep.now c.loop-node.node c.len-node-end.ensures.tree c.requires.closed c.loop-node.invariant.tree (omega (arith, c.loop-node.auto.node)) (grind (arith, common_steps))

pub returns-clause-children : goal.returns-clause-children
returns-clause-children c = lists_children _

-- One more node.
use Rattle.std.proofs.Common.{◌≡◌, ◌<◌, ◌∙◌, ◌++◌, ap, ℕ, ◌∷◌, [], get_or, arith}
use Rattle.std.proofs.lemmas.List.{get_or_default}
use Rattle.std.proofs.lemmas.Grind.{common_steps}
use Rattle.descriptor.specs.Nodes.{parent_of}
use Rattle.resource_locks.specs.Held.{top_step}
use Rattle.resource_locks.proofs.Turns.{walk_next}
use Rattle.resource_locks.proofs.hoisting.tops.Goals as goal

pub loop-node-preserved : goal.loop-node-preserved
loop-node-preserved c =
    let more : c.push.new.self.items ≡ c.loop-node.tops.items ++ c.top_of.result ∷ [] = grind (arith, common_steps) in
    let at : c.index-above.result.now ≡ get_or c.loop-node.tops.items (parent_of c.args.tree.now c.loop-node.node) 0 =
    c.index-above.ensures ∙ get_or_default c.loop-node.tops.items c.parent.result c.index-above.result.now 0 (let lt : c.parent.result < c.loop-node.node = c.parent.ensures.smaller in let len = c.loop-node.invariant.len in omega (arith, lt, len))
    ∙ ap (λ (k : ℕ). get_or c.loop-node.tops.items k 0) c.parent.ensures.value in
    record {
      so_far = walk_next c.args.tree.now (top_step c.args.tree.now) 0 c.loop-node.node c.loop-node.tops.items c.push.new.self.items c.top_of.result c.loop-node.invariant.so_far more (c.top_of.ensures ∙ ap (top_step c.args.tree.now c.loop-node.node) at);
      len = grind (arith, common_steps);
    }

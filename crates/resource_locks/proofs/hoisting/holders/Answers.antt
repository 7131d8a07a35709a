-- One more node.
use Rattle.std.proofs.Common.{◌≡◌, ◌<◌, ◌∙◌, ◌++◌, ap, sym, ℕ, ◌∷◌, [], get_or, arith}
use Rattle.std.proofs.lemmas.List.{get_or_default}
use Rattle.std.proofs.lemmas.Grind.{common_steps}
use Rattle.descriptor.specs.Nodes.{parent_of}
use Rattle.resource_locks.specs.Declarations.{declared_of}
use Rattle.resource_locks.specs.Held.{holder_step}
use Rattle.resource_locks.proofs.Turns.{holder_root, walk_next}
use Rattle.resource_locks.proofs.hoisting.holders.Goals as goal

pub loop-node-init : goal.loop-node-init
loop-node-init c =
    let first : c.in_ok-holders.holders.items ≡ 0 ∷ [] = grind (arith, common_steps) in
    record {
      so_far = first ∙ ap (λ (k : ℕ). k ∷ []) (sym (holder_root (declared_of c.args.tree.now) c.node_count-node-end.ensures.tree));
      len = grind (arith, common_steps);
    }

pub loop-node-preserved : goal.loop-node-preserved
loop-node-preserved c =
    let pos : 0 < c.loop-node.node = (let h = c.loop-node.auto.node in omega (arith, h)) in
    let more : c.push.new.self.items ≡ c.loop-node.holders.items ++ c.holder_of.result ∷ [] = grind (arith, common_steps) in
    let at : c.index-above.result.now ≡ get_or c.loop-node.holders.items (parent_of c.args.tree.now c.loop-node.node) 0 =
    c.index-above.ensures ∙ get_or_default c.loop-node.holders.items c.parent.result c.index-above.result.now 0 (let lt : c.parent.result < c.loop-node.node = c.parent.ensures.smaller in let len = c.loop-node.invariant.len in omega (arith, lt, len))
    ∙ ap (λ (k : ℕ). get_or c.loop-node.holders.items k 0) c.parent.ensures.value in
    record {
      so_far = walk_next c.args.tree.now (holder_step (declared_of c.args.tree.now)) 0 c.loop-node.node c.loop-node.holders.items c.push.new.self.items c.holder_of.result c.loop-node.invariant.so_far more (c.holder_of.ensures ∙ ap (holder_step (declared_of c.args.tree.now) c.loop-node.node) at);
      len = grind (arith, common_steps);
    }

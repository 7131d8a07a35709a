-- One more node.
use Rattle.std.proofs.Common.{◌≡◌, ◌<◌, ◌∙◌, ◌&&◌, eqb, sym, ap, true, false, inl, inr, get_or, arith, List, ℕ}
use Rattle.std.proofs.Math.ListN.{set}
use Rattle.std.proofs.lemmas.Grind.{common_steps}
use Rattle.descriptor.specs.Nodes.{size}
use Rattle.resource_locks.specs.Declarations.{declared_of}
use Rattle.resource_locks.specs.Held.{any_below, top_of, is_whole, isolates}
use Rattle.resource_locks.proofs.Turns.{top_inside, whole_next, table_is}
use Rattle.resource_locks.proofs.hoisting.wholes.Goals as goal
use Rattle.resource_locks.proofs.hoisting.wholes.Goals.{then-isolates, else-isolates}

pub index_mut-requires : goal.index_mut-requires
index_mut-requires c =
    let inside : c.loop-node.node < size c.args.tree.now = grind (arith, common_steps) in
    let top : get_or c.args.tops.now c.loop-node.node 0 ≡ top_of c.args.tree.now c.loop-node.node = ap (λ (v : List ℕ). get_or v c.loop-node.node 0) c.requires.tops in
    let less = top_inside (declared_of c.args.tree.now) c.node_count.ensures.tree c.loop-node.node inside in
    let len = c.loop-node.invariant.len in
    omega (arith, less, top, len)

pub loop-node-preserved : goal.loop-node-preserved
loop-node-preserved c =
    let inside : c.loop-node.node < size c.args.tree.now = grind (arith, common_steps) in
    let top : get_or c.args.tops.now c.loop-node.node 0 ≡ top_of c.args.tree.now c.loop-node.node = ap (λ (v : List ℕ). get_or v c.loop-node.node 0) c.requires.tops in
    let less = top_inside (declared_of c.args.tree.now) c.node_count.ensures.tree c.loop-node.node inside in
    elim c.if-isolates.branch [
      | then-isolates w ↦
          let is : isolates (declared_of c.args.tree.now) c.loop-node.node ≡ true = sym c.isolates.ensures ∙ w.if-isolates.true in
          let made : c.if-isolates.wholes.items ≡ set c.loop-node.wholes.items (get_or c.args.tops.now c.loop-node.node 0) true = grind (arith, common_steps) in
          record {
            len = grind (arith, common_steps);
            each = whole_next (declared_of c.args.tree.now) c.loop-node.node c.loop-node.wholes.items c.if-isolates.wholes.items c.loop-node.invariant.len c.loop-node.invariant.each (inl (is, less, made ∙ ap (λ (k : ℕ). set c.loop-node.wholes.items k true) top));
          }
      | else-isolates w ↦
          let is : isolates (declared_of c.args.tree.now) c.loop-node.node ≡ false = sym c.isolates.ensures ∙ w.if-isolates.false in
          let made : c.if-isolates.wholes.items ≡ c.loop-node.wholes.items = grind (arith, common_steps) in
          record {
            len = grind (arith, common_steps);
            each = whole_next (declared_of c.args.tree.now) c.loop-node.node c.loop-node.wholes.items c.if-isolates.wholes.items c.loop-node.invariant.len c.loop-node.invariant.each (inr (is, made));
          }
    ]

pub returns-clause-wholes : goal.returns-clause-wholes
returns-clause-wholes c =
    let end : c.loop-node.node ≡ size c.args.tree.now = grind (arith, common_steps, c.node_count.ensures.tree.rooted.root) in
    table_is (is_whole (declared_of c.args.tree.now)) false (size c.args.tree.now) c.loop-node.wholes.items c.loop-node.invariant.len (λ k lt. c.loop-node.invariant.each k lt ∙ ap (λ (n : ℕ). any_below (λ m. eqb (top_of c.args.tree.now m) k && isolates (declared_of c.args.tree.now) m) n) end)

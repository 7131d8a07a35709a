-- One more node.
use Rattle.std.proofs.Common.{◌≡◌, ◌<◌, ◌≤◌, ◌∙◌, sym, ap, inl, inr, get_or, arith, List, [], ℕ, length}
use Rattle.std.proofs.Math.ListN.{set}
use Rattle.std.proofs.lemmas.Grind.{common_steps}
use Rattle.descriptor.specs.Nodes.{size, locks_of}
use Rattle.descriptor.specs.declared.lock.Lock.{Lock}
use Rattle.resource_locks.specs.LockSets.{join}
use Rattle.resource_locks.specs.Declarations.{declared_of}
use Rattle.resource_locks.specs.Held.{holder_of, gathered, held}
use Rattle.resource_locks.proofs.Turns.{holder_inside, gather_next, gather_start, table_is}
use Rattle.resource_locks.proofs.hoisting.gathered.Goals as goal
use Rattle.resource_locks.proofs.hoisting.gathered.Goals.{then-holder-gt0+in_ok-put_all, else-holder-gt0}

pub loop-node-init : goal.loop-node-init
loop-node-init c = record { len = c.requires.own_len; each = λ k lt. gather_start (declared_of c.args.tree.now) k c.args.own.items c.node_count-node-end.ensures.tree c.requires.own lt }

pub index_mut-requires : goal.index_mut-requires
index_mut-requires c =
    let inside : c.loop-node.node < size c.args.tree.now = grind (arith, common_steps) in
    let holder : get_or c.args.holders.now c.loop-node.node 0 ≡ holder_of (declared_of c.args.tree.now) c.loop-node.node = ap (λ (v : List ℕ). get_or v c.loop-node.node 0) c.requires.holders in
    let less = holder_inside (declared_of c.args.tree.now) c.node_count-node-end.ensures.tree c.loop-node.node inside in
    let len = c.loop-node.invariant.len in
    omega (arith, less, holder, len)

pub loop-node-preserved : goal.loop-node-preserved
loop-node-preserved c =
    let inside : c.loop-node.node < size c.args.tree.now = grind (arith, common_steps) in
    let holder : get_or c.args.holders.now c.loop-node.node 0 ≡ holder_of (declared_of c.args.tree.now) c.loop-node.node = ap (λ (v : List ℕ). get_or v c.loop-node.node 0) c.requires.holders in
    let less = holder_inside (declared_of c.args.tree.now) c.node_count-node-end.ensures.tree c.loop-node.node inside in
    elim c.if-holder-gt0.branch [
      | then-holder-gt0+in_ok-put_all w ↦
          let pos : 0 < get_or c.args.holders.now c.loop-node.node 0 = w.if-holder-gt0.true in
          let fits : get_or c.args.holders.now c.loop-node.node 0 < length c.loop-node.sets.items = (let len = c.loop-node.invariant.len in omega (arith, less, holder, len)) in
          let at : get_or c.loop-node.sets.items (get_or c.args.holders.now c.loop-node.node 0) [] ≡ w.index_mut.result.now = grind (arith, common_steps) in
          let more : w.put_all.new.self ≡ join w.index_mut.result.now (locks_of c.args.tree.now c.loop-node.node) = grind (arith, common_steps) in
          let made : c.if-holder-gt0.sets.items ≡ set c.loop-node.sets.items (get_or c.args.holders.now c.loop-node.node 0) w.put_all.new.self = grind (arith, common_steps) in
          record {
            len = grind (arith, common_steps);
            each = gather_next (declared_of c.args.tree.now) c.loop-node.node c.loop-node.sets.items c.if-holder-gt0.sets.items c.loop-node.invariant.len c.loop-node.invariant.each (inl (
              omega (arith, pos, holder),
              less,
              made ∙ ap (set c.loop-node.sets.items (get_or c.args.holders.now c.loop-node.node 0)) (more ∙ ap (λ (s : List Lock). join s (locks_of c.args.tree.now c.loop-node.node)) (sym at))
                  ∙ ap (λ (k : ℕ). set c.loop-node.sets.items k (join (get_or c.loop-node.sets.items k []) (locks_of c.args.tree.now c.loop-node.node))) holder,
            ));
          }
      | else-holder-gt0 w ↦
          let zero : get_or c.args.holders.now c.loop-node.node 0 ≤ 0 = w.if-holder-gt0.false in
          let made : c.if-holder-gt0.sets.items ≡ c.loop-node.sets.items = grind (arith, common_steps) in
          record {
            len = grind (arith, common_steps);
            each = gather_next (declared_of c.args.tree.now) c.loop-node.node c.loop-node.sets.items c.if-holder-gt0.sets.items c.loop-node.invariant.len c.loop-node.invariant.each (inr (omega (arith, zero, holder), made));
          }
    ]

pub returns-clause-held : goal.returns-clause-held
returns-clause-held c =
    let end : c.loop-node.node ≡ size c.args.tree.now = grind (arith, common_steps, c.node_count-node-end.ensures.tree.rooted.root) in
    table_is (held (declared_of c.args.tree.now)) [] (size c.args.tree.now) c.loop-node.sets.items c.loop-node.invariant.len (λ k lt. c.loop-node.invariant.each k lt ∙ ap (gathered (declared_of c.args.tree.now) k) end)

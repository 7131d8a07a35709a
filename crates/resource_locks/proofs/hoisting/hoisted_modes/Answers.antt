-- One more node.
use Rattle.std.proofs.Common.{◌≡◌, ◌<◌, ◌∙◌, ◌++◌, ◌||◌, ap, sym, subst, refl, List, Bool, ℕ, false, cond, ◌∷◌, [], get_or, length, arith}
use Rattle.std.proofs.Math.ListN.{set}
use Rattle.std.proofs.lemmas.Bool.{cond-true, cond-false}
use Rattle.std.proofs.lemmas.Grind.{common_steps}
use Rattle.descriptor.specs.Nodes.{size, parent_of}
use Rattle.descriptor.specs.declared.lock.Lock.{Lock}
use Rattle.descriptor.specs.declared.mode.Mode.TheVariants.{SameThread}
use Rattle.resource_locks.specs.Declarations.{declared_of}
use Rattle.resource_locks.specs.Wants.{writes}
use Rattle.resource_locks.specs.Held.{held, writer_step, is_forced, hoisted_mode}
use Rattle.resource_locks.proofs.Walks.{table_at}
use Rattle.resource_locks.proofs.Turns.{walk_next, forced_is, table_is}
use Rattle.resource_locks.proofs.Forced.{passed_next, rest_next}
use Rattle.resource_locks.proofs.hoisting.hoisted_modes.Goals as goal
use Rattle.resource_locks.proofs.hoisting.hoisted_modes.Goals.{then-above, else-above, then-above-2, else-above-2}

pub loop-node-init : goal.loop-node-init
loop-node-init c =
    let root = c.node_count.ensures.tree.rooted.root in
    let set : c.index-sets-0.result ≡ held (declared_of c.args.tree.now) 0 = c.index-sets-0.is ∙ ap (λ (v : List (List Lock)). get_or v 0 c.index-sets-0.result) c.requires.held ∙ table_at (held (declared_of c.args.tree.now)) c.index-sets-0.result (size c.args.tree.now) 0 root in
    let first : c.in_ok-writers.writers.items ≡ c.writes.result ∷ [] = grind (arith, common_steps) in
    record {
      writers = first ∙ ap (λ (b : Bool). b ∷ []) (c.writes.ensures ∙ ap writes set);
      writers_len = grind (arith, common_steps);
      passed = λ k lt. (let z : k ≡ 0 = omega (arith, lt) in subst (λ (x : ℕ). get_or c.args.given.items x SameThread ≡ hoisted_mode (declared_of c.args.tree.now) c.args.given.items x) (sym z) refl);
      rest = λ k le. refl;
      len = c.requires.given;
    }

pub loop-node-preserved : goal.loop-node-preserved
loop-node-preserved c =
    let pos : 0 < c.loop-node.node = (let h = c.loop-node.auto.node in omega (arith, h)) in
    let inside : c.loop-node.node < size c.args.tree.now = grind (arith, common_steps) in
    let up : parent_of c.args.tree.now c.loop-node.node < c.loop-node.node = (let h : c.parent.result < c.loop-node.node = c.parent.ensures.smaller in let e = c.parent.ensures.value in omega (arith, h, e)) in
    let above : c.index-above.result.now ≡ get_or c.loop-node.writers.items (parent_of c.args.tree.now c.loop-node.node) false = grind (arith, common_steps) in
    let forced : is_forced (declared_of c.args.tree.now) c.loop-node.node ≡ c.index-above.result.now = sym (above ∙ forced_is (declared_of c.args.tree.now) c.loop-node.node c.loop-node.writers.items pos inside up c.loop-node.invariant.writers) in
    let fits : c.loop-node.node < length c.loop-node.modes.items = (let len = c.loop-node.invariant.len in omega (arith, len, inside)) in
    let made : c.if-above.modes.items ≡ cond c.index-above.result.now (set c.loop-node.modes.items c.loop-node.node SameThread) c.loop-node.modes.items =
    elim c.if-above.branch [
      | then-above w ↦
          let put : c.if-above.modes.items ≡ set c.loop-node.modes.items c.loop-node.node SameThread = grind (arith, common_steps) in
          put ∙ sym (cond-true c.index-above.result.now (set c.loop-node.modes.items c.loop-node.node SameThread) c.loop-node.modes.items w.if-above.true)
      | else-above w ↦
          let left : c.if-above.modes.items ≡ c.loop-node.modes.items = grind (arith, common_steps) in
          left ∙ sym (cond-false c.index-above.result.now (set c.loop-node.modes.items c.loop-node.node SameThread) c.loop-node.modes.items w.if-above.false)
    ] in
    let writer : c.if-above-2.push ≡ (c.index-above.result.now || writes (held (declared_of c.args.tree.now) c.loop-node.node)) =
    elim c.if-above-2.branch [
      | then-above-2 w ↦ grind (arith, common_steps)
      | else-above-2 w ↦
          let set : w.index-sets-node.result ≡ held (declared_of c.args.tree.now) c.loop-node.node = w.index-sets-node.is ∙ ap (λ (v : List (List Lock)). get_or v c.loop-node.node w.index-sets-node.result) c.requires.held ∙ table_at (held (declared_of c.args.tree.now)) w.index-sets-node.result (size c.args.tree.now) c.loop-node.node inside in
          let is : w.writes-else-above-2.result ≡ writes (held (declared_of c.args.tree.now) c.loop-node.node) = w.writes-else-above-2.ensures ∙ ap writes set in
          w.push-is ∙ is ∙ ap (λ (b : Bool). b || writes (held (declared_of c.args.tree.now) c.loop-node.node)) (sym w.if-above-2.false)
    ] in
    let walked : c.push.new.self.items ≡ c.loop-node.writers.items ++ c.if-above-2.push ∷ [] = grind (arith, common_steps) in
    record {
      writers = walk_next c.args.tree.now (writer_step (declared_of c.args.tree.now)) false c.loop-node.node c.loop-node.writers.items c.push.new.self.items c.if-above-2.push c.loop-node.invariant.writers walked (writer ∙ ap (λ (b : Bool). b || writes (held (declared_of c.args.tree.now) c.loop-node.node)) above);
      writers_len = grind (arith, common_steps);
      passed = passed_next (declared_of c.args.tree.now) c.args.given.items c.loop-node.modes.items c.if-above.modes.items c.loop-node.node c.loop-node.invariant.passed c.loop-node.invariant.rest c.index-above.result.now forced fits made;
      rest = rest_next (declared_of c.args.tree.now) c.args.given.items c.loop-node.modes.items c.if-above.modes.items c.loop-node.node c.loop-node.invariant.passed c.loop-node.invariant.rest c.index-above.result.now forced fits made;
      len = elim c.if-above.branch [ then-above w ↦ grind (arith, common_steps) | else-above w ↦ grind (arith, common_steps) ];
    }

pub returns-clause-modes : goal.returns-clause-modes
returns-clause-modes c =
    let end : c.loop-node.node ≡ size c.args.tree.now = grind (arith, common_steps, c.node_count-node-end.ensures.tree.rooted.root) in
    table_is (hoisted_mode (declared_of c.args.tree.now) c.args.given.items) SameThread (size c.args.tree.now) c.loop-node.modes.items c.loop-node.invariant.len (λ k lt. c.loop-node.invariant.passed k (omega (arith, lt, end)))

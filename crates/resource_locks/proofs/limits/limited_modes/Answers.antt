-- One more node.
use Rattle.std.proofs.Common.{◌≡◌, ◌∙◌, ◌<◌, ◌||◌, ap, sym, Bool, false, cond, [], get_or, map, length, arith}
use Rattle.std.proofs.lemmas.Grind.{common_steps}
use Rattle.std.proofs.lemmas.List.{get_or-map}
use Rattle.descriptor.specs.Nodes.{size, parent_of}
use Rattle.descriptor.specs.declared.mode.Mode.TheVariants.{SameThread}
use Rattle.resource_locks.specs.Limits.{any_limited}
use Rattle.resource_locks.proofs.Marked.{mode_next, mark_next}
use Rattle.resource_locks.proofs.limits.limited_modes.Goals as goal

pub loop-node-preserved : goal.loop-node-preserved
loop-node-preserved c =
    let pos : 0 < c.loop-node.node = (let h = c.loop-node.auto.node in omega (arith, h)) in
    let inside : c.loop-node.node < size c.args.tree.now = grind (arith, common_steps) in
    let up : parent_of c.args.tree.now c.loop-node.node < c.loop-node.node = (let h : c.parent.result < c.loop-node.node = c.parent.ensures.smaller in let e = c.parent.ensures.value in omega (arith, h, e)) in
    let above : c.index-above.result.now ≡ get_or c.loop-node.limited.items (parent_of c.args.tree.now c.loop-node.node) false = grind (arith, common_steps) in
    let fits : c.loop-node.node < length c.args.numbers.now = (let len = c.requires.numbers in omega (arith, len, inside)) in
    let row : c.deref-in-loop-node.result.now ≡ get_or (map (λ v. v.items) c.args.numbers.now) c.loop-node.node [] =
    c.deref-in-loop-node.ensures.value ∙ ap (λ v. v.items) c.index-numbers-node.is ∙ sym (get_or-map (λ v. v.items) c.args.numbers.now c.loop-node.node c.index-numbers-node.result [] fits) in
    let mode : c.mode_under.result ≡ cond c.index-above.result.now SameThread (get_or c.args.given.now c.loop-node.node SameThread) = grind (arith, common_steps) in
    let test : c.either.result ≡ (c.index-above.result.now || any_limited c.args.limits.now (get_or (map (λ v. v.items) c.args.numbers.now) c.loop-node.node [])) =
    c.either.ensures ∙ ap (λ (b : Bool). c.index-above.result.now || b) (c.are_limited-in-loop-node.ensures ∙ ap (any_limited c.args.limits.now) row) in
    record {
      modes = mode_next c.args.tree.now (λ n. any_limited c.args.limits.now (get_or (map (λ v. v.items) c.args.numbers.now) n [])) (λ n. get_or c.args.given.now n SameThread) c.loop-node.node pos inside up c.loop-node.limited.items c.loop-node.invariant.limited
          c.loop-node.modes.items c.push.new.self.items c.mode_under.result c.loop-node.invariant.modes (c.in_ok-push.ensures.items) (mode ∙ ap (λ (b : Bool). cond b SameThread (get_or c.args.given.now c.loop-node.node SameThread)) above);
      limited = mark_next c.args.tree.now (λ n. any_limited c.args.limits.now (get_or (map (λ v. v.items) c.args.numbers.now) n [])) (λ n. get_or c.args.given.now n SameThread) c.loop-node.node pos inside up c.loop-node.limited.items c.loop-node.invariant.limited
          c.push-in-loop-node.new.self.items c.either.result (c.in_ok-push-2.ensures.items) (test ∙ ap (λ (b : Bool). b || any_limited c.args.limits.now (get_or (map (λ v. v.items) c.args.numbers.now) c.loop-node.node [])) above);
      len = grind (arith, common_steps);
    }

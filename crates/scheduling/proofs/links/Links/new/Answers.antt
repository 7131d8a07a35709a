-- No node is linked at first, and all are at the end.
use Rattle.std.proofs.Common.{◌≡◌, ℕ, None, replicate, sym, ap, ◌∙◌, subst, arith}
use Rattle.scheduling.specs.LinkLists.{IsLinkedFrom, chosen_child}
use Rattle.scheduling.proofs.Linking.{no_links}
use Rattle.scheduling.proofs.links.Links.new.Goals as goal

pub loop-number-init : goal.loop-number-init
loop-number-init c =
    let all = c.len-number.ensures.len in (
      omega (arith, all),
      no_links c.args.tree.now (chosen_child c.args.tree.now c.args.chosen.now) c.len-number.result _ all (c.in_ok-no_nodes.ensures ∙ ap (λ (k : ℕ). replicate k None) (c.len.ensures.len ∙ sym all))
          (c.in_ok-no_nodes-2.ensures ∙ ap (λ (k : ℕ). replicate k None) (c.len-2.ensures.len ∙ sym all)),
    )

pub returns : goal.returns
returns c =
    let zero : c.loop-number.number ≡ 0 = omega (arith, c.loop-number-test.false) in
    let linked = subst (λ (k : ℕ). IsLinkedFrom c.args.tree.now (chosen_child c.args.tree.now c.args.chosen.now) k c.loop-number.links) zero c.loop-number.invariant.1 in
    record { first_len = linked.first_len; next_len = linked.next_len; first = linked.first; next = λ d low high. linked.next d low high (omega arith) }

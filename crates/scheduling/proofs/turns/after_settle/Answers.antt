-- The next sibling in the same thread stands in the links.
use Rattle.std.proofs.Common.{◌∙◌, ℕ, ◌<◌, ◌≢◌, None, get_or, ap, sym, arith}
use Rattle.std.proofs.lemmas.Bool.{eqb-false}
use Rattle.std.proofs.lemmas.List.{get_or_default}
use Rattle.descriptor.specs.Nodes.{size}
use Rattle.scheduling.proofs.Batch.{settled_last}
use Rattle.scheduling.proofs.turns.after_settle.Goals as goal

pub returns-in-None : goal.returns-in-None
returns-in-None c =
    let other : c.args.node ≢ 0 = eqb-false c.args.node 0 (sym c.if-eq.ensures) in
    let inside : c.args.node < size c.args.plan.now.tree = c.requires.inside in
    let len = c.requires.turns.same.next_len in
    settled_last c.args.plan.now c.args.node (sym c.if-eq.ensures)
    (sym (c.requires.turns.same.next c.args.node (omega (arith, other)) inside)
    ∙ sym (get_or_default c.args.turns.now.same.next.items c.args.node c.index-2.result.now None (omega (arith, inside, len)))
    ∙ sym (ap (λ (k : ℕ). get_or c.args.turns.now.same.next.items k c.index-2.result.now) c.index.ensures.same)
    ∙ sym c.index-2.ensures ∙ c.in-None.is)

-- One more node: its place is empty, and its reason stands beside.
use Rattle.std.proofs.Common.{◌≡◌, ◌<◌, arith}
use Rattle.std.proofs.lemmas.Grind.{common_steps}
use Rattle.descriptor.specs.Nodes.{size, reason_of}
use Rattle.plan_events.proofs.Reasons.{reasons_more}
use Rattle.plan_events.proofs.texts.Texts.new.Goals as goal

pub loop-number-preserved : goal.loop-number-preserved
loop-number-preserved c =
    let inside : c.loop-number.number < size c.args.tree.now = grind (arith, common_steps) in
    let here : c.in_ok-reason.field-0 ≡ reason_of c.args.tree.now c.loop-number.number = grind (arith, common_steps) in (
      grind (arith, common_steps),
      reasons_more c.args.tree.now c.loop-number.number c.loop-number.reasons.items _ c.in_ok-reason.field-0 c.len-number-end.ensures.tree inside c.loop-number.invariant.1 here c.in_ok-push-2.ensures.items,
    )

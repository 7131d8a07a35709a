-- One node more, which is such a test or not.
use Rattle.std.proofs.Common.{◌≡◌, ◌∙◌, ◌≤◌, ◌+◌, ℕ, List, true, false, length, take, sym, ap, arith}
use Rattle.live.specs.Slowest.{is_timed, placed}
use Rattle.live.proofs.Placing.{passed, taken_first, taken_more}
use Rattle.live.proofs.slowest.timed_tests.Goals as goal

pub loop-number-preserved-then-not-is_timed : goal.loop-number-preserved-then-not-is_timed
loop-number-preserved-then-not-is_timed c =
    let t = c.args.plan.now.tree in
    let took = c.args.timings.now.took.items in
    let is : is_timed t took c.loop-number.number ≡ false = sym (ap (is_timed t took) c.new-node.ensures) ∙ sym c.is_timed.ensures ∙ c.if-not-is_timed.true in
    let same = sym (passed t took c.loop-number.number is) in
    (c.loop-number.invariant.0 ∙ ap (take 10) same, c.loop-number.invariant.1 ∙ ap length same, omega arith)

pub loop-number-preserved : goal.loop-number-preserved
loop-number-preserved c =
    let t = c.args.plan.now.tree in
    let took = c.args.timings.now.took.items in
    let n = c.loop-number.number in
    let is : is_timed t took n ≡ true = sym (ap (is_timed t took) c.new-node.ensures) ∙ sym c.is_timed.ensures ∙ c.if-not-is_timed.false in
    let kept = c.in_ok-keep.ensures ∙ ap (λ (m : ℕ). take 10 (placed took m c.loop-number.slowest.items)) c.new-node.ensures in (
      taken_first t took n 10 c.loop-number.slowest.items _ is c.loop-number.invariant.0 kept,
      ap (λ (k : ℕ). k + 1) c.loop-number.invariant.1 ∙ sym (taken_more t took n is),
      omega arith,
    )

-- Its place is before the first that took less time, or behind all.
use Rattle.std.proofs.Common.{◌∙◌, ◌+◌, ◌<◌, ◌≤◌, ℕ, get_or, ap, arith}
use Rattle.std.specs.List.{insert}
use Rattle.live.proofs.Placing.{here, behind, last}
use Rattle.reports.specs.TimeTexts.{time_or_none}
use Rattle.live.proofs.slowest.place_of.Goals as goal

pub returns-then-time_or_none-time-clause-placed : goal.returns-then-time_or_none-time-clause-placed
returns-then-time_or_none-time-clause-placed c =
    let took = c.args.timings.now.took.items in
    let tests = c.args.tests.now in
    let i = c.loop-test.test-index in
    let test = c.test-item.result in
    let less : time_or_none took (get_or tests i test) < time_or_none took c.args.node = omega (arith, ap (time_or_none took) c.test-item.is) in
    ap (λ (k : ℕ). insert tests k c.args.node) c.loop-test.invariant.0 ∙ here took c.args.node tests i test (omega arith) less c.loop-test.invariant.1

pub loop-test-preserved : goal.loop-test-preserved
loop-test-preserved c =
    let took = c.args.timings.now.took.items in
    let tests = c.args.tests.now in
    let i = c.loop-test.test-index in
    let test = c.test-item.result in
    let more : time_or_none took c.args.node ≤ time_or_none took (get_or tests i test) = omega (arith, ap (time_or_none took) c.test-item.is) in
    (ap (λ (k : ℕ). k + 1) c.loop-test.invariant.0, behind took c.args.node tests i test (omega arith) more c.loop-test.invariant.1)

pub returns-clause-placed : goal.returns-clause-placed
returns-clause-placed c =
    let i = c.loop-test.test-index in
    ap (λ (k : ℕ). insert c.args.tests.now k c.args.node) c.loop-test.invariant.0 ∙ last c.args.timings.now.took.items c.args.node c.args.tests.now i c.loop-test-test.false c.loop-test.invariant.1

-- The slowest of the tests so far, and how many there are.
use Rattle.std.proofs.Common.{◌≡◌, ◌≤◌, length, take}
use Rattle.live.specs.Slowest.{by_time}
use Rattle.live.proofs.slowest.timed_tests.Given as goal

abbrev pub invariant-loop-number : goal.invariant-loop-number
invariant-loop-number l =
    let tests = by_time l.plan.tree l.timings.took.items l.number in
    (l.slowest.items ≡ take 10 tests) × (l.all ≡ length tests) × (l.all ≤ l.number)

-- The tests so far took no less time.
use Rattle.std.proofs.Common.{◌≡◌, ◌++◌, take, drop}
use Rattle.live.specs.Slowest.{placed}
use Rattle.live.proofs.slowest.place_of.Given as goal

abbrev pub invariant-loop-test : goal.invariant-loop-test
invariant-loop-test l =
    let took = l.timings.took.items in
    (l.place ≡ l.test-index) × (placed took l.fn.node l.tests ≡ take l.test-index l.tests ++ placed took l.fn.node (drop l.test-index l.tests))

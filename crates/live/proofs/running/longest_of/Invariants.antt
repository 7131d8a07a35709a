-- The test that runs longest of those so far.
use Rattle.std.proofs.Common.{◌∷◌, take}
use Rattle.live.specs.RunningTests.{IsLongest}
use Rattle.live.proofs.running.longest_of.Given as goal

abbrev pub invariant-loop-test : goal.invariant-loop-test
invariant-loop-test l = IsLongest (l.fn.first ∷ take l.test-index l.others) l.longest

-- The lines of the tests so far.
use Rattle.std.proofs.Common.{◌≡◌, ◌++◌, take, string_bytes}
use Rattle.std.specs.List.{flat_map}
use Rattle.live.specs.Slowest.{slow_lines}
use Rattle.live.proofs.slowest.push_tests.Given as goal

abbrev pub invariant-loop-test : goal.invariant-loop-test
invariant-loop-test l = string_bytes l.text ≡ string_bytes l.fn.text ++ flat_map (slow_lines l.plan l.timings.took.items) (take l.test-index l.tests)

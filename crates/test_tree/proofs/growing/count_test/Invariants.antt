-- The jobs so far are changed, and the rest is as it was.
use Rattle.std.proofs.Common.{◌≡◌, ◌++◌, take, drop}
use Rattle.test_bodies.specs.Bodies.{with_test}
use Rattle.test_tree.specs.Growing.{changed}
use Rattle.test_tree.proofs.growing.count_test.Given as goal

abbrev pub invariant-loop-place : goal.invariant-loop-place
invariant-loop-place g l = l.jobs.items ≡ changed with_test l.number (take l.place l.fn.jobs.items) ++ drop l.place l.fn.jobs.items

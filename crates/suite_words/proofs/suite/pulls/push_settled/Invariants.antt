-- The scripts so far.
use Rattle.std.proofs.Common.{◌≡◌, ◌++◌, map}
use Rattle.suite_words.specs.Reading.Pulls.{settled}
use Rattle.suite_words.proofs.suite.pulls.push_settled.Given as goal

abbrev pub invariant-loop-pending : goal.invariant-loop-pending
invariant-loop-pending l = l.all.items ≡ l.fn.all.items ++ map (settled l.tree) l.yielded

-- The scripts so far.
use Rattle.std.proofs.Common.{◌≡◌, ◌++◌}
use Rattle.suite_words.proofs.suite.pulls.push_afters.Given as goal

abbrev pub invariant-loop-script : goal.invariant-loop-script
invariant-loop-script l = l.all.items ≡ l.fn.all.items ++ l.yielded

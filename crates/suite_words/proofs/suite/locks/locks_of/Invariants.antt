-- The loop has copied the locks that it has passed.
use Rattle.std.proofs.Common.{◌≡◌, take}
use Rattle.suite_words.proofs.suite.locks.locks_of.Given as goal

abbrev pub invariant-loop-lock : goal.invariant-loop-lock
invariant-loop-lock l = l.locks ≡ take l.lock-index l.lock-items

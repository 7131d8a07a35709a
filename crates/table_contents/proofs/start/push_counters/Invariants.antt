-- The counters so far.
use Rattle.std.proofs.Common.{◌≡◌, ◌++◌, take}
use Rattle.table_contents.proofs.start.push_counters.Given as goal

abbrev pub invariant-loop-counter : goal.invariant-loop-counter
invariant-loop-counter l = l.words.items ≡ l.initial.words.items ++ take l.counter-index l.counters

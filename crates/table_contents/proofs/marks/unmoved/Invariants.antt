-- Each worker so far has its marks.
use Rattle.std.proofs.Common.{◌≡◌, false, replicate}
use Rattle.table_contents.proofs.marks.unmoved.Given as goal

abbrev pub invariant-loop-worker : goal.invariant-loop-worker
invariant-loop-worker l = l.all.items ≡ replicate l._worker (replicate l.slots false)

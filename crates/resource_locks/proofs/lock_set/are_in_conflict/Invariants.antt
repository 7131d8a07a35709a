-- What was passed is in no conflict.
use Rattle.std.proofs.Common.{◌+◌, length}
use Rattle.resource_locks.proofs.Conflicts.{Remains}
use Rattle.resource_locks.proofs.lock_set.are_in_conflict.Given as goal

abbrev pub invariant-loop-lock : goal.invariant-loop-lock
invariant-loop-lock l = Remains l.fn.one l.fn.other l.mine l.theirs

abbrev pub decreases-loop-lock : goal.decreases-loop-lock
decreases-loop-lock l = length l.mine + length l.theirs

-- The nodes so far are kept apart.
use Rattle.termination.specs.Inside.Branches.{AreAllKeptApart}
use Rattle.termination.proofs.is_free_of_conflict.Given as goal

abbrev pub invariant-loop-node : goal.invariant-loop-node
invariant-loop-node l = AreAllKeptApart l.plan l.node

-- The node is kept apart from each other so far.
use Rattle.termination.specs.Inside.Branches.{IsKeptApartFrom}
use Rattle.termination.proofs.is_kept_apart.Given as goal

abbrev pub invariant-loop-other : goal.invariant-loop-other
invariant-loop-other l = IsKeptApartFrom l.plan l.fn.node l.other

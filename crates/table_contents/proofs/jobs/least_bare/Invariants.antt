-- The least number of those slots so far that are empty.
use Rattle.table_contents.specs.Filling.{IsLeastBare}
use Rattle.table_contents.proofs.jobs.least_bare.Given as goal

abbrev pub invariant-loop-slot : goal.invariant-loop-slot
invariant-loop-slot g l = IsLeastBare l.plan l.slots l.slot l.least

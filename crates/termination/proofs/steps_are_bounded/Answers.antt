-- The two clauses are the theorems.
use Rattle.termination.proofs.Bounded.{bounded}
use Rattle.termination.proofs.Ends.{rests}
use Rattle.termination.proofs.steps_are_bounded.Goals as goal

pub returns-clause-bounded : goal.returns-clause-bounded
returns-clause-bounded c = bounded

pub returns-clause-rests : goal.returns-clause-rests
returns-clause-rests c = rests

-- The steps are taken, and there are few more at most.
use Rattle.termination.proofs.LongRun.{takes, at_most, is_made}
use Rattle.termination.proofs.long_run.Goals as goal

pub returns-clause-taken : goal.returns-clause-taken
returns-clause-taken c = takes

pub returns-clause-at_most : goal.returns-clause-at_most
returns-clause-at_most c = at_most

pub returns-clause-made : goal.returns-clause-made
returns-clause-made c = is_made

use Rattle.workers.proofs.Going.{still_of}
use Rattle.workers.proofs.scan.take.Goals as goal

pub claim-requires-clause-table : goal.claim-requires-clause-table
claim-requires-clause-table g c = still_of _ _ _ c.requires.table c.look_at-status.ensures.goes_on.same

pub own-requires-clause-table : goal.own-requires-clause-table
own-requires-clause-table g c = still_of _ _ _ c.requires.table c.look_at-status.ensures.goes_on.same

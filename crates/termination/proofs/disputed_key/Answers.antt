-- The plan gets round, and is made of its tree.
use Rattle.termination.proofs.Round.{is_disputed, gets_round, has_no_bound, is_made}
use Rattle.termination.proofs.disputed_key.Goals as goal

pub returns-clause-round : goal.returns-clause-round
returns-clause-round c = gets_round

pub returns-clause-made : goal.returns-clause-made
returns-clause-made c = is_made

pub returns-clause-endless : goal.returns-clause-endless
returns-clause-endless c = has_no_bound

pub returns-clause-disputed : goal.returns-clause-disputed
returns-clause-disputed c = is_disputed

use Rattle.messages.proofs.Settled.{reads_no_other}
use Rattle.messages.proofs.keys.is_read.Goals as goal

pub returns-then-eq-2-clause-no_other : goal.returns-then-eq-2-clause-no_other
returns-then-eq-2-clause-no_other c = reads_no_other

pub returns-else-eq-2-clause-no_other : goal.returns-else-eq-2-clause-no_other
returns-else-eq-2-clause-no_other c = reads_no_other

-- The search proves it. Written out, it spares a wrong body the printing of what is left to show.
use Rattle.std.proofs.Common.{rules}
use Rattle.listeners.proofs.event_list.EventList.reserve.Goals as goal

pub invariant_of-self : goal.invariant_of-self
invariant_of-self c = search rules

pub returns-in_err-reserve-clause-err : goal.returns-in_err-reserve-clause-err
returns-in_err-reserve-clause-err c = search rules

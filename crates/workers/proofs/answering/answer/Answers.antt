use Rattle.workers.proofs.Going.{still_of}
use Rattle.workers.proofs.Outgoing.{then_goes}
use Rattle.workers.proofs.answering.answer.Goals as goal

pub go_on_decided-requires-clause-table : goal.go_on_decided-requires-clause-table
go_on_decided-requires-clause-table g c = still_of _ _ _ c.requires.table c.run_awaited.ensures.goes_on.same

pub returns-clause-goes_on : goal.returns-clause-goes_on
returns-clause-goes_on g c = then_goes _ _ _ c.run_awaited.ensures.goes_on c.go_on_decided.ensures.goes_on

pub returns-clause-steady : goal.returns-clause-steady
returns-clause-steady g c = λ phase it. c.go_on_decided.ensures.steady phase (c.run_awaited.ensures.steady phase it)

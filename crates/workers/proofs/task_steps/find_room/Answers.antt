-- The wait goes on from where the look has left the seat.
use Rattle.workers.proofs.Outgoing.{then_goes}
use Rattle.workers.proofs.task_steps.find_room.Goals as goal

pub returns-clause-goes_on : goal.returns-clause-goes_on
returns-clause-goes_on g c = then_goes _ _ _ c.look_for_room.ensures.goes_on c.wait_for_room.ensures.goes_on

pub returns-clause-steady : goal.returns-clause-steady
returns-clause-steady g c = λ phase it. c.wait_for_room.ensures.steady phase (c.look_for_room.ensures.steady phase it)

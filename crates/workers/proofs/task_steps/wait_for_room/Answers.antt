use Rattle.workers.proofs.Going.{goes_itself, still_of}
use Rattle.workers.proofs.Outgoing.{then_goes}
use Rattle.workers.proofs.task_steps.wait_for_room.Goals as goal

pub loop-init : goal.loop-init
loop-init g c = record { table = c.requires.table; goes_on = goes_itself _; steady = λ phase it. it; due = c.requires.due }

pub returns-then-look_for_room-clause-goes_on : goal.returns-then-look_for_room-clause-goes_on
returns-then-look_for_room-clause-goes_on g c = then_goes _ _ _ c.loop.invariant.goes_on c.look_for_room-in-loop.ensures.goes_on

pub returns-then-look_for_room-clause-steady : goal.returns-then-look_for_room-clause-steady
returns-then-look_for_room-clause-steady g c = λ phase it. c.look_for_room-in-loop.ensures.steady phase (c.loop.invariant.steady phase it)

pub loop-preserved : goal.loop-preserved
loop-preserved g c = record {
  table = still_of _ _ _ c.loop.invariant.table c.look_for_room-in-loop.ensures.goes_on.same;
  goes_on = then_goes _ _ _ c.loop.invariant.goes_on c.look_for_room-in-loop.ensures.goes_on;
  steady = λ phase it. c.look_for_room-in-loop.ensures.steady phase (c.loop.invariant.steady phase it);
  due = c.look_for_room-in-loop.ensures.due;
}

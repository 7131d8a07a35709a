use Rattle.run_table.specs.Seats.{IsSeatOf}
use Rattle.workers.specs.Going.{GoesOn}
use Rattle.workers.specs.Leading.{GoesOnFrom}
use Rattle.workers.specs.Inside.Steady.{Phase, Steady}
use Rattle.workers.proofs.working.run_tasks.Given as goal

abbrev pub invariant-loop : goal.invariant-loop
invariant-loop g l = record {
  table : IsSeatOf l.table.table l.seat.seat;
  goes_on : GoesOn l.fn.seat.seat l.seat.seat;
  steady : (phase : Phase) → Steady phase l.fn.seat.seat → Steady phase l.seat.seat;
  led : GoesOnFrom g.K.Place.led l.fn.place l.place;
}

use Rattle.run_table.specs.Seats.{IsSeatOf}
use Rattle.workers.specs.Going.{GoesOn}
use Rattle.workers.specs.Leading.{GoesOnFrom}
use Rattle.workers.specs.Inside.Steady.{Steady, AtNodes}
use Rattle.workers.proofs.working.see_through.Given as goal

abbrev pub invariant-loop : goal.invariant-loop
invariant-loop g l = record {
  table : IsSeatOf l.table.table l.seat.seat;
  goes_on : GoesOn l.fn.seat.seat l.seat.seat;
  steady : Steady AtNodes l.seat.seat;
  led : GoesOnFrom g.K.Place.led l.fn.place l.place;
}

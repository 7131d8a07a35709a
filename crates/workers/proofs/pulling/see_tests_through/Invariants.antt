use Rattle.std.proofs.Common.{ℕ}
use Rattle.run_table.specs.Seats.{IsSeatOf}
use Rattle.workers.specs.Going.{GoesOn}
use Rattle.workers.specs.Leading.{GoesOnFrom}
use Rattle.workers.specs.Inside.Steady.{Steady, AtTests}
use Rattle.workers.proofs.pulling.see_tests_through.Given as goal

abbrev pub invariant-loop : goal.invariant-loop
invariant-loop g l = record {
  table : IsSeatOf l.table.table l.seat.seat;
  goes_on : GoesOn l.fn.seat.seat l.seat.seat;
  steady : (factory asked : ℕ) → Steady (AtTests factory asked) l.fn.seat.seat → Steady (AtTests factory asked) l.seat.seat;
  led : GoesOnFrom g.K.Place.led l.fn.place l.place;
}

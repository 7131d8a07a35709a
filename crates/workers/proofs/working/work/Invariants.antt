use Rattle.std.proofs.Common.{◌≡◌, None}
use Rattle.scheduling.specs.declared.task.Task.TheVariants.{Free}
use Rattle.run_table.specs.Seats.{IsSeatOf}
use Rattle.workers.specs.Going.{GoesOn}
use Rattle.workers.specs.Leading.{GoesOnFrom}
use Rattle.workers.proofs.working.work.Given as goal

abbrev pub invariant-loop : goal.invariant-loop
invariant-loop g l = record {
  table : IsSeatOf l.table.table l.seat.seat;
  goes_on : GoesOn l.fn.seat.seat l.seat.seat;
  free : l.seat.task ≡ Free;
  empty : l.seat.hand ≡ None;
  led : GoesOnFrom g.K.Place.led l.fn.place l.place;
}

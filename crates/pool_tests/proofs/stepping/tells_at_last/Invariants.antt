-- The texts are those of what was read.
use Rattle.run_table.specs.Seats.{IsSeatOf}
use Rattle.test_jobs.specs.Acting.{replies_left}
use Rattle.thread_pool.specs.Telling.{KeepsTexts}
use Rattle.pool_tests.proofs.stepping.tells_at_last.Given as goal

abbrev pub invariant-loop-call : goal.invariant-loop-call
invariant-loop-call g l = record {
  seat : IsSeatOf l.table.table l.dispatcher_seat.seat;
  texts : KeepsTexts replies_left l.dispatcher_seat.seat.me.0 l.texts;
}

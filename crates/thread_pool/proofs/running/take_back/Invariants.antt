use Rattle.std.proofs.Common.{◌≡◌}
use Rattle.run_table.specs.Seats.{IsSeatOf, IsOf}
use Rattle.thread_pool.proofs.running.take_back.Given as goal

abbrev pub invariant-loop-handle : goal.invariant-loop-handle
invariant-loop-handle g l = record {
  next : (goal.iterator-loop-handle g).can_next l.handle-iterator;
  finite : (goal.iterator-loop-handle g).is_finite l.handle-iterator;
  table : IsSeatOf l.shared.table.table l.seat.seat;
  same : IsOf l.initial.seat.seat l.seat.seat;
  kept : l.seat.seat.me ≡ l.initial.seat.seat.me;
}

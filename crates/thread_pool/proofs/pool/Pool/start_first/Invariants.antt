-- As long as no thread was started, each try failed.
use Rattle.std.proofs.Common.{◌≡◌, ◌≤◌, vec_len}
use Rattle.table_rule.specs.Plays.{dispatcher}
use Rattle.run_table.specs.Seats.{IsSeatOf, IsOf}
use Rattle.thread_pool.proofs.pool.Pool.start_first.Given as goal

abbrev pub invariant-loop-tried : goal.invariant-loop-tried
invariant-loop-tried g l = record {
  table : IsSeatOf l.shared.table.table l.seat.seat;
  same : IsOf l.fn.seat.seat l.seat.seat;
  read : (dispatcher l.seat.seat.me.0).read ≡ (dispatcher l.fn.seat.seat.me.0).read;
  slots : (dispatcher l.seat.seat.me.0).slots ≡ (dispatcher l.fn.seat.seat.me.0).slots;
  none : vec_len l.self.started ≡ 0 → l.seat ≡ l.fn.seat;
  gates : l.self.gates ≡ l.fn.self.gates;
  failed : vec_len l.self.started ≡ 0 → l.failed ≡ l._tried;
  few : l.failed ≤ l._tried;
}

use Rattle.std.specs.Prelude.{vec_capacity}
use Rattle.table_rule.specs.Plays.{dispatcher}
use Rattle.run_table.specs.Seats.{IsSeatOf, IsOf}
use Rattle.thread_pool.specs.Seeing.{HasSeenSince}
use Rattle.thread_pool.specs.Telling.{IsNoted, KeepsTexts}
use Rattle.thread_pool.proofs.dispatching.dispatch.Given as goal

abbrev pub invariant-loop : goal.invariant-loop
invariant-loop g l = record {
  seat : IsSeatOf l.table.table l.state.seat.seat;
  same : IsOf l.fn.state.seat.seat l.state.seat.seat;
  seen : HasSeenSince g.O.Observer.saw l.fn.state.seat.seat.me.0.about.plan l.state.texts (dispatcher l.fn.state.seat.seat.me.0).read (dispatcher l.state.seat.seat.me.0).read l.fn.observer l.observer;
  texts : KeepsTexts g.B.Job.answers l.state.seat.seat.me.0 l.state.texts;
  noted : IsNoted l.state.seat.seat.me.0 l.state.events.items (vec_capacity l.state.events);
}

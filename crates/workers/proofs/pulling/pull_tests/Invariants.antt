use Rattle.std.proofs.Common.{◌≡◌, ◌≤◌, ◌<◌, ℕ, length, Some, None}
use Rattle.descriptor.specs.Nodes.{body_of}
use Rattle.scheduling.specs.declared.seat.Hand.{Hand}
use Rattle.scheduling.specs.declared.task.Task.TheVariants.{Free}
use Rattle.table_rule.specs.Picture.{gives_in, replies_in}
use Rattle.run_table.specs.Seats.{IsSeatOf}
use Rattle.workers.specs.Leading.{GoesOnFrom}
use Rattle.workers.specs.Inside.Answering.{GivesAfter, LeftAfter}
use Rattle.workers.specs.Going.{GoesOn}
use Rattle.workers.specs.Inside.Steady.{Steady, AtTests}
use Rattle.workers.proofs.pulling.pull_tests.Given as goal

abbrev pub invariant-loop : goal.invariant-loop
invariant-loop g l = record {
  table : IsSeatOf l.table.table l.seat.seat;
  goes_on : GoesOn l.fn.seat.seat l.seat.seat;
  steady : Steady (AtTests l.factory l.asked) l.seat.seat;
  free : l.seat.task ≡ Free;
  idle : (h : Hand) → l.seat.hand ≡ Some h → h.waiting ≡ None;
  few : l.asked ≤ l.tests;
  some : 0 < length (g.B.Job.answers l.job);
  left : (number : ℕ) × (body_of l.seat.seat.me.0.about.plan.tree l.factory ≡ Some number) × LeftAfter l.asked (replies_in g.B.Job.answers l.seat.seat.me.0.about.jobs number) (g.B.Job.answers l.job) × GivesAfter l.asked (gives_in g.B.Job.gives l.seat.seat.me.0.about.jobs number) (g.B.Job.gives l.job);
  led : GoesOnFrom g.K.Place.led l.fn.place l.place;
}

use Rattle.std.proofs.Common.{◌≡◌, ◌<◌, length, None}
use Rattle.std.specs.List.{All}
use Rattle.descriptor.specs.Nodes.{size}
use Rattle.scheduling.specs.declared.task.Task.TheVariants.{Free}
use Rattle.run_table.specs.Seats.{IsSeatOf}
use Rattle.workers.specs.Going.{GoesOn}
use Rattle.workers.proofs.scan.take_next.Given as goal

-- it has found none so far
abbrev pub invariant-loop-number : goal.invariant-loop-number
invariant-loop-number g l = record {
  table : IsSeatOf l.table.table l.seat.seat;
  goes_on : GoesOn l.fn.seat.seat l.seat.seat;
  free : l.seat.task ≡ Free;
  empty : l.seat.hand ≡ None;
  inside : All (λ n. n < size l.table.plan.tree) l.circle;
}

abbrev pub decreases-loop-number : goal.decreases-loop-number
decreases-loop-number g l = length l.circle

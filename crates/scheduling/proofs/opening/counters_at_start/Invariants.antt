-- The counters so far are those of the nodes so far.
use Rattle.std.proofs.Common.{◌≡◌}
use Rattle.resource_locks.specs.Held.{table}
use Rattle.scheduling.specs.Inside.Start.{guard_and_children}
use Rattle.scheduling.proofs.opening.counters_at_start.Given as goal

abbrev pub invariant-loop-index : goal.invariant-loop-index
invariant-loop-index l = l.counters.items ≡ table (guard_and_children l.tree) l.index

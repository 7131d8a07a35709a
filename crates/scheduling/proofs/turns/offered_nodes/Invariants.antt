-- The list so far is that of the nodes so far.
use Rattle.std.proofs.Common.{◌≡◌}
use Rattle.resource_locks.specs.Held.{table}
use Rattle.scheduling.specs.LinkLists.{is_offered}
use Rattle.scheduling.proofs.turns.offered_nodes.Given as goal

abbrev pub invariant-loop-number : goal.invariant-loop-number
invariant-loop-number l = l.nodes.items ≡ table (is_offered l.plan) l.number

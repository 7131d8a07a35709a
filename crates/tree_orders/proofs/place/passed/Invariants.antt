-- All so far are passed.
use Rattle.std.proofs.Common.{◌≡◌, ◌+◌, drop}
use Rattle.tree_orders.specs.Orders.{passed}
use Rattle.tree_orders.proofs.place.passed.Given as goal

abbrev pub invariant-loop-i : goal.invariant-loop-i
invariant-loop-i l = passed l.tree l.above l.siblings l.behind ≡ l.i + passed l.tree l.above l.left (drop l.i l.behind)

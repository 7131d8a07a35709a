-- The nodes so far are in their order.
use Rattle.std.proofs.Common.{◌≡◌}
use Rattle.tree_orders.specs.Draws.{draw}
use Rattle.tree_orders.specs.Orders.{order_to}
use Rattle.tree_orders.proofs.order.order.Given as goal

abbrev pub invariant-loop-last : goal.invariant-loop-last
invariant-loop-last l = l.order.items ≡ order_to l.tree (draw l.tree l.seed) l.last

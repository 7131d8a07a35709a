-- The node is not among those so far.
use Rattle.std.proofs.Common.{◌≡◌, ◌+◌, drop}
use Rattle.tree_orders.specs.Orders.{place_in}
use Rattle.tree_orders.proofs.place.place_in.Given as goal

abbrev pub invariant-loop-i : goal.invariant-loop-i
invariant-loop-i l = place_in l.order l.node ≡ l.i + place_in (drop l.i l.order) l.node

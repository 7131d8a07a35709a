-- The nodes at the places so far are in the tree.
use Rattle.std.proofs.Common.{◌≡◌}
use Rattle.tree_orders.proofs.Growing.{so_far}
use Rattle.tree_orders.proofs.building.put_all.Given as goal

abbrev pub invariant-loop-place : goal.invariant-loop-place
invariant-loop-place l = l.builder ≡ so_far l.tree l.order l.place

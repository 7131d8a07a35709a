-- The order of a tree by a seed is an order of its nodes.
use Rattle.std.proofs.Common.{◌≡◌, ℕ, suc, ◌-◌, ◌<◌, length, arith, subst}
use Rattle.descriptor.specs.Nodes.{Nodes, IsTree, size}
use Rattle.tree_orders.specs.Draws.{draw}
use Rattle.tree_orders.specs.Listed.{IsListed, IsOrder}
use Rattle.tree_orders.specs.Orders.{order_to, seeded_order}
use Rattle.tree_orders.proofs.Chains.{chain_to, chain_at}
use Rattle.tree_orders.proofs.Listing.{listed_to, length_to}

-- an order to the last node is one of all nodes
pub order_whole : (t : Nodes) → IsTree t → (drawn : ℕ → ℕ) (n : ℕ) → suc n ≡ size t → IsOrder t (order_to t drawn n)
order_whole t tree drawn n last = record {
  listed = subst (IsListed (order_to t drawn n)) last (listed_to t drawn n);
  follows = λ k inside. (
      let len : length (order_to t drawn n) ≡ suc n = length_to t drawn n in
      (chain_at t (suc n) k (order_to t drawn n) (chain_to t tree drawn n (omega arith)) (omega arith)).follows);
}

last_node : (n : ℕ) → 0 < n → suc (n - 1) ≡ n
last_node n some = omega arith

pub seeded_is_order : (t : Nodes) → IsTree t → (seed : ℕ) → IsOrder t (seeded_order seed t)
seeded_is_order t tree seed = order_whole t tree (draw t seed) (size t - 1) (last_node (size t) tree.root)

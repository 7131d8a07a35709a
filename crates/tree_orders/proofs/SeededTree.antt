-- What a tree in a seed's order tells of each node is what the tree tells of one, and its children are children.
use Rattle.std.proofs.Common.{◌≡◌, ℕ, get_or}
use Rattle.descriptor.specs.Nodes.{Nodes, IsTree, IsChild, node_at}
use Rattle.tree_orders.specs.Orders.{seeded, seeded_order}
use Rattle.tree_orders.specs.Reordered.{IsReordered}
use Rattle.tree_orders.proofs.Orders.{seeded_is_order}
use Rattle.tree_orders.proofs.Placing.{told_at, child_back}
use Rattle.tree_orders.proofs.Whole.{reordered_tree, is_reordered}

-- the node of the tree that stands at place k
abbrev pub node_from : (seed : ℕ) → Nodes → ℕ → ℕ
node_from seed t k = get_or (seeded_order seed t) k 0

module _ (t : Nodes) (tree : IsTree t) (seed : ℕ) where
  pub seeded_tree : IsTree (seeded seed t)
  seeded_tree = reordered_tree t tree (seeded_order seed t) (seeded_is_order t tree seed)

  pub seeded_reordered : IsReordered t (seeded seed t)
  seeded_reordered = is_reordered t tree (seeded_order seed t) (seeded_is_order t tree seed)

  pub seeded_plan : node_from seed t 0 ≡ 0
  seeded_plan = (seeded_is_order t tree seed).listed.first

  pub seeded_told : (k : ℕ) → node_at (seeded seed t) k ≡ node_at t (node_from seed t k)
  seeded_told = told_at t tree (seeded_order seed t) (seeded_is_order t tree seed)

  pub seeded_child : (k c : ℕ) → IsChild (seeded seed t) k c → IsChild t (node_from seed t k) (node_from seed t c)
  seeded_child = child_back t tree (seeded_order seed t) (seeded_is_order t tree seed)

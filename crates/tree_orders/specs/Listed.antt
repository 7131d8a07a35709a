-- What lists of nodes are like while an order is made, and what orders are.
use Rattle.std.specs.Prelude.{◌≡◌, ◌⊎◌, ℕ, suc, ◌<◌, List, length, slice_index, true}
use Rattle.descriptor.specs.Nodes.{Nodes, Below, size, parent_of, is_spare_at}
use Rattle.tree_orders.specs.Orders.{place_in}

-- the list has each node below n once and no others, node 0 first
pub record IsListed (order : List ℕ) (n : ℕ) : Type 0 where
  pub counted : length order ≡ n
  pub first : slice_index order 0 ≡ 0
  -- each node below n stands in it
  pub inside : (m : ℕ) → m < n → place_in order m < n
  pub here : (m : ℕ) → m < n → slice_index order (place_in order m) ≡ m
  -- at each place stands a node below n, and only there
  pub low : (k : ℕ) → k < n → slice_index order k < n
  pub once : (k : ℕ) → k < n → place_in order (slice_index order k) ≡ k

-- node y may stand right behind node x: it is a child of x, or of a node that x is below; and a dynamic test has the next number
pub record Follows (t : Nodes) (x y : ℕ) : Type 0 where
  pub parent : (parent_of t y ≡ x) ⊎ Below t (parent_of t y) x
  pub spare : is_spare_at t y ≡ true → y ≡ suc x

-- an order of all nodes, in which each may stand behind the one before it
pub record IsOrder (t : Nodes) (order : List ℕ) : Type 0 where
  pub listed : IsListed order (size t)
  pub follows : (k : ℕ) → suc k < size t → Follows t (slice_index order k) (slice_index order (suc k))

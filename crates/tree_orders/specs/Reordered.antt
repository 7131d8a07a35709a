-- What an order by a seed leaves of a tree: the same nodes at other places, and dynamic tests where they were.
use Rattle.std.specs.Prelude.{◌≡◌, ℕ, ◌+◌, ◌-◌, ◌<◌, true}
use Rattle.descriptor.specs.Nodes.{Nodes, size, parent_of, node_at, is_spare_at}

-- u has the nodes of t, each once, in an order in which parents are what they were
pub record IsReordered (t u : Nodes) : Type 0 where
  -- where each node of t stands in u
  pub place : ℕ → ℕ
  -- there are as many nodes
  pub counted : size u ≡ size t
  -- each node has a place
  pub inside : (n : ℕ) → n < size t → place n < size u
  -- at each place stands a node
  pub each : (k : ℕ) → k < size u → (n : ℕ) × ((n < size t) × (place n ≡ k))
  -- and only one
  pub once : (m n : ℕ) → m < size t → n < size t → place m ≡ place n → m ≡ n
  -- the plan is the first
  pub plan : place 0 ≡ 0
  -- each node is told of as before: its id, name, kind, role, mode, locks, bodies, reason and tags
  pub told : (n : ℕ) → n < size t → node_at u (place n) ≡ node_at t n
  -- its parent is the one it had
  pub parent : (n : ℕ) → 0 < n → n < size t → parent_of u (place n) ≡ place (parent_of t n)
  -- a dynamic test stands right behind the node that it stood behind: its factory, or the dynamic test before
  pub spares : (n : ℕ) → is_spare_at t n ≡ true → place n ≡ place (n - 1) + 1

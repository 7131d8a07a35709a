-- The order in which a seed has the nodes of a tree, and the tree of the nodes in an order.
use Rattle.std.specs.Prelude.{ℕ, zero, suc, ◌+◌, ◌-◌, ◌==◌, ◌&&◌, ◌||◌, nat_lt, Bool, cond, List, [], ◌∷◌, map, drop, insert, Option, Some, None}
use Rattle.std.specs.List.{filter_map}
use Rattle.descriptor.specs.Nodes.{Nodes, size, parent_of, node_at, is_spare_at}
use Rattle.tree_orders.specs.Draws.{draw}

-- the place of node n in a list, from 0, and the length of the list if n is not in it
abbrev pub place_in : List ℕ → ℕ → ℕ
place_in [] n = 0
place_in (x ∷ xs) n = cond (x == n) 0 (suc (place_in xs n))

-- whether a child of p that is still to pass so many of its siblings is put before node x: x is such a sibling and none is left to pass, or x is not below p
abbrev pub is_stop : Nodes → (p left x : ℕ) → Bool
is_stop t p left x = nat_lt (parent_of t x) p || ((parent_of t x == p) && (left == 0))

-- how many siblings are still to be passed behind node x
abbrev pub left_behind : Nodes → (p left x : ℕ) → ℕ
left_behind t p left x = cond (parent_of t x == p) (left - 1) left

-- how many of these nodes, the first of which stands right behind p, a child of p passes that passes so many of its siblings with all below them
abbrev pub passed : Nodes → (p left : ℕ) → List ℕ → ℕ
passed t p left [] = 0
passed t p left (x ∷ xs) = cond (is_stop t p left x) 0 (suc (passed t p (left_behind t p left x) xs))

-- the place behind p of a child of p that passes so many of its siblings
abbrev pub place_behind : Nodes → (p left : ℕ) → List ℕ → ℕ
place_behind t p left order = suc (place_in order p + passed t p left (drop (suc (place_in order p)) order))

-- where node n is put among the nodes before it, of which it draws so many elder siblings to pass; a dynamic test draws nothing and is put right behind the node before it, its
-- factory or that factory's dynamic test before
abbrev pub slot : Nodes → (drawn n : ℕ) → List ℕ → ℕ
slot t drawn n order = cond (is_spare_at t n) (suc (place_in order (n - 1))) (place_behind t (parent_of t n) drawn order)

-- the nodes from 0 to n in their order, where each is put, from node 1 on, among those before it by what it draws
abbrev pub order_to : Nodes → (ℕ → ℕ) → ℕ → List ℕ
order_to t drawn zero = 0 ∷ []
order_to t drawn (suc n) = insert (order_to t drawn n) (slot t (drawn (suc n)) (suc n) (order_to t drawn n)) (suc n)

-- the order of a tree's nodes by a seed
abbrev pub seeded_order : ℕ → Nodes → List ℕ
seeded_order seed t = order_to t (draw t seed) (size t - 1)

-- the tree of the nodes in an order that begins with the plan: each told of as before, and below the parent that it had
abbrev pub reordered : Nodes → List ℕ → Nodes
reordered t order = record {
  parents = 0 ∷ map (λ n. place_in order (parent_of t n)) (drop 1 order);
  nodes = filter_map (node_at t) order;
}

-- the tree in which a seed has put the children of each container but the dynamic tests of factories in another order
abbrev pub seeded : ℕ → Nodes → Nodes
seeded seed t = reordered t (seeded_order seed t)

-- the tree in the order of a seed, and as it is where there is no seed
abbrev pub seeded_or_same : Option ℕ → Nodes → Nodes
seeded_or_same None t = t
seeded_or_same (Some seed) t = seeded seed t

-- The fields of a tree and what they keep, which only proofs need.
use Rattle.std.specs.Prelude.{◌≡◌, ℕ, ◌<◌, List, length, map, set, [], ◌∷◌, ◌++◌, slice_index_or}
use Rattle.std.specs.declared.alloc.Global.{Global}
use Rattle.std.specs.declared.vec.Vec.{Vec}
use Rattle.descriptor.specs.declared.node_id.NodeId.{NodeId}
use Rattle.descriptor.specs.Nodes.{Nodes, IsTree, size, children_of, depth_of}
use Rattle.descriptor.specs.declared.tree.Tree.TheInside.{Inside}

-- the fields as contracts see them
abbrev pub nodes_of : Inside → Nodes
nodes_of t = record { parents = t.parents.items; nodes = t.nodes.items }

-- the lists beside the nodes have each node's depth and its children
pub record IsKept (t : Nodes) (ds : List ℕ) (cs : List (List ℕ)) : Type 0 where
  pub tree : IsTree t
  -- what stands for the parent of the plan
  pub plan : slice_index_or t.parents 0 0 ≡ 0
  pub depths_len : length ds ≡ size t
  pub children_len : length cs ≡ size t
  pub depths : (n : ℕ) → n < size t → slice_index_or ds n 0 ≡ depth_of t n
  pub children : (n : ℕ) → n < size t → slice_index_or cs n [] ≡ children_of t n

-- the numbers in a vector
abbrev pub numbers : Vec NodeId Global → List ℕ
numbers v = v.items

-- the numbers in lists that are vectors
abbrev pub numbers_in : List (Vec NodeId Global) → List (List ℕ)
numbers_in = map numbers

-- lists of children where node n, a child of a, was added
abbrev pub with_child : List (List ℕ) → ℕ → ℕ → List (List ℕ)
with_child cs a n = set cs a (slice_index_or cs a [] ++ n ∷ []) ++ [] ∷ []

-- what the fields keep
abbrev pub IsSound : Inside → Type 0
IsSound t = IsKept (nodes_of t) t.depths.items (map (λ v. v.items) t.children.items)

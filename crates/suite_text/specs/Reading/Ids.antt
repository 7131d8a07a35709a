-- How unique ids follow the tree.
use Rattle.std.specs.Prelude.{◌≡◌, ℕ, ◌+◌, List, [], ◌∷◌, ◌++◌, length, if◌then◌else◌, Some}
use Rattle.descriptor.specs.declared.node.Node.{Node}
use Rattle.descriptor.specs.Nodes.{Nodes, node_at, parent_of, is_child, numbers_where}
use Rattle.descriptor.specs.Roles.{is_spare}
use Rattle.suite_words.specs.Reading.Nodes.{id_at, value_of_dyn}

-- which child of its parent node n is, from 1: one more than there are with smaller numbers
abbrev pub place_among : Nodes → ℕ → ℕ
place_among t n = length (numbers_where (is_child t (parent_of t n)) n) + 1

-- the value of the last segment: for the k-th dynamic test of a factory `#` and k in decimal, else the node's name
abbrev pub value_at : Nodes → ℕ → Node → List ℕ
value_at t n node = if is_spare node.role then value_of_dyn (place_among t n) else node.name

-- the unique id of node n is its parent's with one more segment of this value
pub record IsNamed (t : Nodes) (n : ℕ) (node : Node) : Type 0 where
  pub kind : List ℕ
  pub id : node.id ≡ id_at t (parent_of t n) ++ record { kind = kind; value = value_at t n node } ∷ []

-- so it is for each node
abbrev pub IdsFollow : Nodes → Type 0
IdsFollow t = (n : ℕ) (node : Node) → node_at t n ≡ Some node → IsNamed t n node

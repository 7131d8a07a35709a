-- What the list of a node's children is: every child of the node, once, from the least number.
use Rattle.std.specs.Prelude.{◌≡◌, ℕ, ◌<◌, length, Some, slice_get}
use Rattle.descriptor.specs.Nodes.{Nodes, size, IsChild, children_of, is_child, count_below}

-- the list of n's children has each child of n once and nothing else, in order
pub record ListsChildren (t : Nodes) (n : ℕ) : Type 0 where
  -- what stands in the list is a child
  pub listed : (i c : ℕ) → slice_get (children_of t n) i ≡ Some c → IsChild t n c
  -- each child stands in it
  pub each : (c : ℕ) → IsChild t n c → (i : ℕ) × (slice_get (children_of t n) i ≡ Some c)
  -- at one place only
  pub once : (i j c : ℕ) → slice_get (children_of t n) i ≡ Some c → slice_get (children_of t n) j ≡ Some c → i ≡ j
  -- a child stands after those of smaller numbers
  pub ordered : (i j c d : ℕ) → i < j → slice_get (children_of t n) i ≡ Some c → slice_get (children_of t n) j ≡ Some d → c < d
  -- so there are as many places as children
  pub counted : length (children_of t n) ≡ count_below (is_child t n) (size t)

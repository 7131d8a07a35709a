-- How nodes lie below each other in a tree.
use Rattle.std.proofs.Common.{◌≡◌, ℕ, ◌<◌, refl, subst, arith, inl, inr, ◌⊎◌}
use Rattle.descriptor.specs.Nodes.{Nodes, IsTree, IsChild, Below, child, under, size, parent_of}

-- a node that is not the plan is a child of its parent
pub own_child : (t : Nodes) (n : ℕ) → 0 < n → n < size t → IsChild t (parent_of t n) n
own_child t n positive inside = record { above_zero = positive; inside = inside; parent = refl }

-- what lies above a node is its parent, or lies above that
pub above_parent : (t : Nodes) (a p n : ℕ) → IsChild t p n → Below t a n → (a ≡ p) ⊎ Below t a p
above_parent t a p n e (child d) = inl (cc (e.parent, d.parent))
above_parent t a p n e (under {c = c} b d) = inr (subst (Below t a) (cc (e.parent, d.parent)) b)

pub below_inside : (t : Nodes) (a n : ℕ) → Below t a n → (0 < n) × (n < size t)
below_inside t a n (child e) = (e.above_zero, e.inside)
below_inside t a n (under b e) = (e.above_zero, e.inside)

module _ (t : Nodes) (tree : IsTree t) where
  pub child_less : (p n : ℕ) → IsChild t p n → p < n
  child_less p n e = let up : parent_of t n < n = tree.up n e.above_zero e.inside in omega (arith, e.parent)

  pub below_less : (a n : ℕ) → Below t a n → a < n
  below_less a n (child e) = child_less a n e
  below_less a n (under {c = c} b e) = omega (arith, below_less a c b, child_less c n e)

-- How nodes lie at, above and below each other.
use Rattle.std.proofs.Common.{ℕ, inl, inr, refl, sym, subst}
use Rattle.descriptor.specs.Nodes.{Nodes, parent_of, IsChild, Below, child, under}
use Rattle.resource_locks.specs.Declarations.{AtOrBelow}

pub below_through : (t : Nodes) (a b c : ℕ) → Below t a b → Below t b c → Below t a c
below_through t a b c d (child e) = under d e
below_through t a b c d (under {c = m} r e) = under (below_through t a b m d r) e

pub at_through : (t : Nodes) (a b c : ℕ) → AtOrBelow t a b → AtOrBelow t b c → AtOrBelow t a c
at_through t a b c (inl s) r = subst (λ (x : ℕ). AtOrBelow t x c) (sym s) r
at_through t a b c (inr d) (inl s) = inr (subst (Below t a) s d)
at_through t a b c (inr d) (inr r) = inr (below_through t a b c d r)

pub at_child : (t : Nodes) (a b c : ℕ) → AtOrBelow t a b → IsChild t b c → Below t a c
at_child t a b c (inl s) e = child (subst (λ (x : ℕ). IsChild t x c) (sym s) e)
at_child t a b c (inr d) e = under d e

-- the last step to a node
pub last_step : (t : Nodes) (a n : ℕ) → Below t a n → IsChild t (parent_of t n) n × AtOrBelow t a (parent_of t n)
last_step t a n (child c) = (record { above_zero = c.above_zero; inside = c.inside; parent = refl }, inl (sym c.parent))
last_step t a n (under {c = m} b c) = (record { above_zero = c.above_zero; inside = c.inside; parent = refl }, inr (subst (Below t a) (sym c.parent) b))

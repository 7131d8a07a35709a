-- What lies below a node, one step up at a time.
use Rattle.std.proofs.Common.{◌≡◌, ◌≢◌, ℕ, ◌<◌, ◌-◌, ◌↔◌, Bool, inl, inr, subst, sym, ◌∙◌, arith}
use Rattle.std.specs.Bool.{IsTrue}
use Rattle.descriptor.specs.Nodes.{Nodes, IsChild, Below, child, under, size, MayTake}

pub below_child : (t : Nodes) (a p c : ℕ) → IsChild t p c → p ≡ a → Below t a c
below_child t a p c e same = child (record { above_zero = e.above_zero; inside = e.inside; parent = e.parent ∙ same })

pub below_up : (t : Nodes) (a p c : ℕ) → IsChild t p c → p ≢ a → Below t a c → Below t a p
below_up t a p c e other (child d) = absurd (other (sym e.parent ∙ d.parent))
below_up t a p c e other (under b d) = subst (Below t a) (sym d.parent ∙ e.parent) b

pub below_under : (t : Nodes) (a p c : ℕ) → IsChild t p c → Below t a p → Below t a c
below_under t a p c e b = under b e

-- a node that is not the last may take the next exactly where the last is below it
pub may_take_is : (t u : Nodes) (a last : ℕ) (b : Bool) → t ≡ u → last ≡ size t - 1 → last < size t → a ≢ last → (IsTrue b ↔ Below t a last) → (IsTrue b → a < last) → (IsTrue b ↔ MayTake u a)
may_take_is t u a last b same is inside other below less =
    subst (λ (x : Nodes). IsTrue b ↔ MayTake x a) same (
      (λ r. (let h : a < last = less r in omega arith, inr (subst (Below t a) is (below.0 r)))),
      (λ m. elim m.1 [ inl e ↦ absurd (other (e ∙ sym is)) | inr d ↦ below.1 (subst (Below t a) (sym is) d) ]),
    )

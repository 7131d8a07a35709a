-- Of two nodes at or above a third one, one is above the other; and what is below a factory.
use Rattle.std.proofs.Common.{◌≡◌, ℕ, ◌<◌, true, sym, ◌∙◌, arith, inl, inr, ◌⊎◌, subst}
use Rattle.std.proofs.lemmas.Bool.{cases_eq, false≢true}
use Rattle.descriptor.specs.Nodes.{Nodes, IsTree, IsChild, Below, child, under, parent_of, is_factory_at, is_spare_at}
use Rattle.descriptor.proofs.Belows.{below_up}

module _ (t : Nodes) (tree : IsTree t) where
  pub below_less : (a b : ℕ) → Below t a b → a < b
  below_less a b (child e) =
      let less : parent_of t b < b = tree.up b e.above_zero e.inside in
      let is : parent_of t b ≡ a = e.parent in
      omega arith
  below_less a b (under {c} d e) =
      let before : a < c = below_less a c d in
      let less : parent_of t b < b = tree.up b e.above_zero e.inside in
      let is : parent_of t b ≡ c = e.parent in
      omega arith

  upper_by : (a b n : ℕ) → Below t b n → Below t a n → a < b → Below t a b
  upper_by a b n (child e) d less = below_up t a b n e (λ same. omega arith) d
  upper_by a b n (under {c} f e) d less = elim (cases_eq c a) [
    | inl same ↦ absurd (let more : b < c = below_less b c f in omega arith)
    | inr other ↦ upper_by a b c f (below_up t a c n e other d) less
  ]

  -- of two nodes at or above a third one, the one of the smaller number is above the other
  pub upper : (a b n : ℕ) → (a ≡ n) ⊎ Below t a n → (b ≡ n) ⊎ Below t b n → a < b → Below t a b
  upper a b n (inl e) (inl d) less = absurd (omega arith)
  upper a b n (inl e) (inr d) less = absurd (let more : b < n = below_less b n d in omega arith)
  upper a b n (inr d) (inl e) less = subst (Below t a) (sym e) d
  upper a b n (inr d) (inr f) less = upper_by a b n f d less

  -- a child of a factory has no child
  pub no_grandchild : (f p n : ℕ) → is_factory_at t f ≡ true → IsChild t f p → IsChild t p n → ⊥
  no_grandchild f p n factory stands e =
      let spare : is_spare_at t p ≡ true = tree.spares f p stands ∙ factory in
      false≢true (sym (tree.leaf p n e) ∙ tree.spare_tests p spare)

  -- what is below a factory is a child of it
  pub below_factory : (f n : ℕ) → is_factory_at t f ≡ true → Below t f n → IsChild t f n
  below_factory f n factory (child e) = e
  below_factory f n factory (under {c} d e) = absurd (no_grandchild f c n factory (below_factory f c factory d) e)

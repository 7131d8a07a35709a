-- What a tree says of nodes that are told of, and of spares.
use Rattle.std.specs.Option.{is_some}
use Rattle.std.proofs.Common.{◌≡◌, ◌&&◌, ℕ, Bool, zero, suc, ◌<◌, true, false, length, Option, None, slice_get, inl, inr, refl, sym, ap, ◌∙◌, arith, not}
use Rattle.std.proofs.lemmas.Bool.{both_ways, false≢true, cases_lt}
use Rattle.std.proofs.lemmas.Option.{slice_get_past}
use Rattle.descriptor.specs.declared.kind.Kind.{Kind}
use Rattle.descriptor.specs.declared.kind.Kind.TheVariants.{Test, Container, ContainerAndTest}
use Rattle.descriptor.specs.declared.node.Node.{Node}
use Rattle.descriptor.specs.declared.role.Role.{Role}
use Rattle.descriptor.specs.declared.role.Role.TheVariants.{Plain, Factory, Spare}
use Rattle.descriptor.specs.Kinds.{is_container}
use Rattle.descriptor.specs.Nodes.{Nodes, IsTree, size, parent_of, IsChild, role_or, kind_of, role_of, is_leaf_at, is_factory_at, is_spare_at, body_of}
use Rattle.descriptor.specs.Roles.{is_factory, is_spare}
use Rattle.resource_locks.specs.Plans.{PlanParts}
use Rattle.event_history.specs.Plans.{pulls_job, Sort, Leaf, Holder, Maker, sort_by, sort_of, IsPlanTree}

-- a factory that may hold nodes
maker : (kind : Kind) (role : Role) → is_factory role ≡ true → not (is_container kind) ≡ false → sort_by kind role ≡ Maker
maker Test role f c = absurd (false≢true (sym c))
maker Container Plain f c = absurd (false≢true f)
maker Container Factory f c = refl
maker Container Spare f c = absurd (false≢true f)
maker ContainerAndTest Plain f c = absurd (false≢true f)
maker ContainerAndTest Factory f c = refl
maker ContainerAndTest Spare f c = absurd (false≢true f)

holder : Holder ≡ Leaf → ⊥
holder q = cc

made : Maker ≡ Leaf → ⊥
made q = cc

-- a node that may hold none
leaf_sort : (kind : Kind) (role : Role) → not (is_container kind) ≡ true → sort_by kind role ≡ Leaf
leaf_sort Test role q = refl
leaf_sort Container role q = absurd (false≢true q)
leaf_sort ContainerAndTest role q = absurd (false≢true q)

sort_leaf : (kind : Kind) (role : Role) → sort_by kind role ≡ Leaf → not (is_container kind) ≡ true
sort_leaf Test role q = refl
sort_leaf Container Plain q = absurd (holder q)
sort_leaf Container Factory q = absurd (made q)
sort_leaf Container Spare q = absurd (holder q)
sort_leaf ContainerAndTest Plain q = absurd (holder q)
sort_leaf ContainerAndTest Factory q = absurd (made q)
sort_leaf ContainerAndTest Spare q = absurd (holder q)

-- of a sort that is a factory, so is the role
abbrev pub is_maker : Sort → Bool
is_maker Maker = true
is_maker _ = false

pub maker_role : (kind : Kind) (role : Role) → is_maker (sort_by kind role) ≡ true → is_factory role ≡ true
maker_role Test role q = absurd (false≢true q)
maker_role Container Plain q = absurd (false≢true q)
maker_role Container Factory q = refl
maker_role Container Spare q = absurd (false≢true q)
maker_role ContainerAndTest Plain q = absurd (false≢true q)
maker_role ContainerAndTest Factory q = refl
maker_role ContainerAndTest Spare q = absurd (false≢true q)

module _ (t : Nodes) (tree : IsTree t) where
  -- of which something is told, is a node
  pub told_inside : (n : ℕ) → (slice_get t.nodes n ≡ None → ⊥) → suc n < size t
  told_inside n told =
      elim (cases_lt n (length t.nodes)) [
        | inl lt ↦ omega (arith, lt, tree.nodes_len)
        | inr le ↦ absurd (told (slice_get_past t.nodes n le))
      ]

  -- a leaf holds no node
  leaf : (n c : ℕ) → IsChild t n c → sort_of t n ≡ Leaf → ⊥
  leaf n c e q = both_ways (is_leaf_at t n) (tree.leaf n c e) (sort_leaf (kind_of t n) (role_of t n) q)

  -- a spare is one
  spare_leaf : (n : ℕ) → is_spare_at t n ≡ true → sort_of t n ≡ Leaf
  spare_leaf n q = leaf_sort (kind_of t n) (role_of t n) (tree.spare_tests n q)

  -- and is a child of a factory
  spare_edge : (n : ℕ) → is_spare_at t n ≡ true → IsChild t (parent_of t n) n
  spare_edge zero q = absurd (false≢true q)
  spare_edge (suc n) q = record {
    above_zero = omega arith;
    inside = told_inside n (λ none. false≢true (sym (ap (λ (o : Option Node). is_spare (role_or o)) none) ∙ q));
    parent = refl;
  }

  factory_sort : (n : ℕ) → is_factory_at t n ≡ true → sort_of t n ≡ Maker
  factory_sort n q = maker (kind_of t n) (role_of t n) q (tree.factories n q)

  spare_factory : (n : ℕ) → is_spare_at t n ≡ true → sort_of t (parent_of t n) ≡ Maker
  spare_factory n q = factory_sort (parent_of t n) (sym (tree.spares (parent_of t n) n (spare_edge n q)) ∙ q)

  -- the children of a factory are spares
  pub maker_spares : (f c : ℕ) → IsChild t f c → sort_of t f ≡ Maker → is_spare_at t c ≡ true
  maker_spares f c e q = tree.spares f c e ∙ maker_role (kind_of t f) (role_of t f) (ap is_maker q)

-- so a tree has what is asked of a plan's
pub plan_tree : (t : Nodes) → IsTree t → IsPlanTree t
plan_tree t tree = record {
  rooted = record { root = tree.root; up = tree.up };
  leaf = leaf t tree;
  spare_leaf = spare_leaf t tree;
  spare_factory = spare_factory t tree;
  factory_sort = factory_sort t tree;
}

both_or_none : (a b : Bool) → (a ≡ true → b ≡ true) → (b ≡ true → a ≡ true) → a ≡ b
both_or_none true b f g = sym (f refl)
both_or_none false true f g = g refl
both_or_none false false f g = refl

-- a factory is told by its sort
pub factory_is : (t : Nodes) → IsPlanTree t → (n : ℕ) → is_factory_at t n ≡ is_maker (sort_of t n)
factory_is t tree n = both_or_none (is_factory_at t n) (is_maker (sort_of t n)) (λ q. ap is_maker (tree.factory_sort n q)) (maker_role (kind_of t n) (role_of t n))

-- so is a factory with a job
pub pulls_sort : (p : PlanParts) → IsPlanTree p.tree → (n : ℕ) → pulls_job p n ≡ (is_maker (sort_of p.tree n) && is_some (body_of p.tree n))
pulls_sort p tree n = ap (λ (b : Bool). b && is_some (body_of p.tree n)) (factory_is p.tree tree n)

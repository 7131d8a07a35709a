-- What a plan says of a node among its siblings, and of a factory and its spares.
use Rattle.std.specs.Prelude.{◌≡◌, ℕ, ◌<◌, ◌&&◌, nat_lt, Bool, true, false}
use Rattle.std.specs.Option.{is_some}
use Rattle.descriptor.specs.declared.kind.Kind.{Kind}
use Rattle.descriptor.specs.declared.kind.Kind.TheVariants.{Test, Container, ContainerAndTest}
use Rattle.descriptor.specs.declared.mode.Mode.{Mode}
use Rattle.descriptor.specs.declared.mode.Mode.TheVariants.{SameThread, Concurrent}
use Rattle.descriptor.specs.declared.role.Role.{Role}
use Rattle.descriptor.specs.declared.role.Role.TheVariants.{Factory}
use Rattle.descriptor.specs.Nodes.{Nodes, size, parent_of, IsChild, is_child, count_below, kind_of, role_of, body_of, is_factory_at, is_spare_at}
use Rattle.resource_locks.specs.Plans.{PlanParts, mode_of}
use Rattle.resource_locks.specs.Declarations.{IsRooted}

abbrev pub is_same_thread : Mode → Bool
is_same_thread SameThread = true
is_same_thread Concurrent = false

-- whether node n runs on the thread of its parent
abbrev pub is_same : PlanParts → ℕ → Bool
is_same p n = is_same_thread (mode_of p n)

-- a and b are children of one node, and a comes first
pub record IsElder (t : Nodes) (a b : ℕ) : Type 0 where
  pub parent : ℕ
  pub elder : IsChild t parent a
  pub younger : IsChild t parent b
  pub before : a < b

-- what a node is to its children: it holds none, it is run around them, or it is a factory, whose body says how many of
-- them are run
pub data Sort : Type 0 where
  Leaf : Sort
  Holder : Sort
  Maker : Sort

abbrev pub sort_by : Kind → Role → Sort
sort_by Test role = Leaf
sort_by Container Factory = Maker
sort_by Container role = Holder
sort_by ContainerAndTest Factory = Maker
sort_by ContainerAndTest role = Holder

-- the sort of node n; the plan is run around its children
abbrev pub sort_of : Nodes → ℕ → Sort
sort_of t n = sort_by (kind_of t n) (role_of t n)

-- whether n is a factory with a job
abbrev pub pulls_job : PlanParts → ℕ → Bool
pulls_job p n = is_factory_at p.tree n && is_some (body_of p.tree n)

-- whether n has a child
abbrev pub has_child : PlanParts → ℕ → Bool
has_child p n = nat_lt 0 (count_below (is_child p.tree n) (size p.tree))

-- whether c is a spare of f
abbrev pub is_spare_of : PlanParts → ℕ → ℕ → Bool
is_spare_of p f c = is_child p.tree f c && is_spare_at p.tree c

-- how many spares f has
abbrev pub spare_count : PlanParts → ℕ → ℕ
spare_count p f = count_below (is_spare_of p f) (size p.tree)

-- how many spares come before c among those of its parent
abbrev pub rank : PlanParts → ℕ → ℕ
rank p c = count_below (is_spare_of p (parent_of p.tree c)) c

-- what is asked here of a tree of nodes, and what every such tree (`IsTree`) has: there is the plan, a parent has a smaller
-- number, a leaf holds no node, a spare is a leaf and a child of a factory, and a factory may hold nodes
pub record IsPlanTree (t : Nodes) : Type 0 where
  pub rooted : IsRooted t
  pub leaf : (n c : ℕ) → IsChild t n c → sort_of t n ≡ Leaf → ⊥
  pub spare_leaf : (n : ℕ) → is_spare_at t n ≡ true → sort_of t n ≡ Leaf
  pub spare_factory : (n : ℕ) → is_spare_at t n ≡ true → sort_of t (parent_of t n) ≡ Maker
  pub factory_sort : (n : ℕ) → is_factory_at t n ≡ true → sort_of t n ≡ Maker

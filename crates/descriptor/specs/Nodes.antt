-- The nodes of a tree as contracts see them: each node's parent, and what is said of each node but the plan.
use Rattle.std.specs.Prelude.{◌≡◌, ℕ, zero, suc, ◌+◌, ◌-◌, ◌<◌, ◌≤◌, ◌&&◌, ◌||◌, ◌==◌, nat_lt, not, Bool, true, false, cond, List, [], ◌∷◌, ◌++◌, length, Option, Some, None, slice_get, slice_index_or, ◌⊎◌}
use Rattle.std.specs.Option.{is_some}
use Rattle.unique_id.specs.Spelling.{spelling}
use Rattle.descriptor.specs.declared.kind.Kind.TheVariants.{Container}
use Rattle.descriptor.specs.declared.kind.Kind.{Kind}
use Rattle.descriptor.specs.declared.lock.Lock.{Lock}
use Rattle.descriptor.specs.declared.mode.Mode.{Mode}
use Rattle.descriptor.specs.declared.node.Node.{Node}
use Rattle.descriptor.specs.declared.role.Role.TheVariants.{Plain}
use Rattle.descriptor.specs.declared.role.Role.{Role}
use Rattle.descriptor.specs.Declarations.{DeclaresNothing}
use Rattle.descriptor.specs.Kinds.{is_container}
use Rattle.descriptor.specs.Limits.{is_over_limit}
use Rattle.descriptor.specs.Roles.{is_factory, is_spare}

-- `parents` has a number for node 0 too, which says nothing; `nodes` begins with node 1
pub record Nodes : Type 0 where
  pub parents : List ℕ
  pub nodes : List Node

-- how many nodes there are, the plan included
abbrev pub size : Nodes → ℕ
size t = length t.parents

-- the number that stands for the parent of n, and 0 past the end
abbrev pub parent_of : Nodes → ℕ → ℕ
parent_of t n = slice_index_or t.parents n 0

-- whether n is the plan or an engine
abbrev pub is_high : Nodes → ℕ → Bool
is_high t n = (n == 0) || (parent_of t n == 0)

-- what the tree says of node n; of the plan it says nothing
abbrev pub node_at : Nodes → ℕ → Option Node
node_at t zero = None
node_at t (suc n) = slice_get t.nodes n

-- c is a child of a
pub record IsChild (t : Nodes) (a c : ℕ) : Type 0 where
  pub above_zero : 0 < c
  pub inside : c < size t
  pub parent : parent_of t c ≡ a

-- b is reached from a by one or more children
pub data Below (t : Nodes) (a : ℕ) : ℕ → Type 0 where
  child : {c : ℕ} → IsChild t a c → Below t a c
  under : {c d : ℕ} → Below t a c → IsChild t c d → Below t a d

-- the numbers below n that pass, from the least
abbrev pub numbers_where : (ℕ → Bool) → ℕ → List ℕ
numbers_where q zero = []
numbers_where q (suc n) = numbers_where q n ++ cond (q n) (n ∷ []) []

-- whether c is a child of a, as a test
abbrev pub is_child : Nodes → ℕ → ℕ → Bool
is_child t a c = nat_lt 0 c && (parent_of t c == a)

-- a truth value as a number
abbrev pub bit : Bool → ℕ
bit true = 1
bit false = 0

-- how many numbers below n pass
abbrev pub count_below : (ℕ → Bool) → ℕ → ℕ
count_below q zero = 0
count_below q (suc n) = bit (q n) + count_below q n

-- the children of a, in order
abbrev pub children_of : Nodes → ℕ → List ℕ
children_of t a = numbers_where (is_child t a) (size t)

-- how many steps lead from n up to node 0, of so many that may be taken; as a parent has a smaller number, n are enough
abbrev pub steps_up : List ℕ → ℕ → ℕ → ℕ
steps_up parents zero n = 0
steps_up parents (suc k) zero = 0
steps_up parents (suc k) (suc n) = suc (steps_up parents k (slice_index_or parents (suc n) 0))

-- how many steps lead from node n up to node 0
abbrev pub depth_of : Nodes → ℕ → ℕ
depth_of t n = steps_up t.parents n n

-- the next node may be a child of a: a is the last node, or the last node is below it
abbrev pub MayTake : Nodes → ℕ → Type 0
MayTake t a = (a < size t) × ((a ≡ size t - 1) ⊎ Below t a (size t - 1))

-- what a node may hold; where there is none, what the plan may hold
abbrev pub kind_or : Option Node → Kind
kind_or None = Container
kind_or (Some node) = node.kind

-- what node n may hold; the plan is a container
abbrev pub kind_of : Nodes → ℕ → Kind
kind_of t n = kind_or (node_at t n)

-- whether node n may hold no other node, as a test that is no container; the plan is none
abbrev pub is_leaf_at : Nodes → ℕ → Bool
is_leaf_at t n = not (is_container (kind_of t n))

-- the role of a node; where there is none, no special one
abbrev pub role_or : Option Node → Role
role_or None = Plain
role_or (Some node) = node.role

-- the role of node n; the plan has no special one
abbrev pub role_of : Nodes → ℕ → Role
role_of t n = role_or (node_at t n)

-- whether node n is a factory; the plan is none
abbrev pub is_factory_at : Nodes → ℕ → Bool
is_factory_at t n = is_factory (role_of t n)

-- whether node n is a spare; the plan is none
abbrev pub is_spare_at : Nodes → ℕ → Bool
is_spare_at t n = is_spare (role_of t n)

-- the mode that a node declares; where there is none, no mode
abbrev pub mode_or : Option Node → Option Mode
mode_or None = None
mode_or (Some node) = node.mode

-- the mode that node n declares, if any; the plan declares none
abbrev pub mode_of : Nodes → ℕ → Option Mode
mode_of t n = mode_or (node_at t n)

-- the locks that a node declares; where there is none, no locks
abbrev pub locks_or : Option Node → List Lock
locks_or None = []
locks_or (Some node) = node.locks

-- the locks that node n declares; the plan declares none
abbrev pub locks_of : Nodes → ℕ → List Lock
locks_of t n = locks_or (node_at t n)

-- whether a node is isolated; where there is none, it is not
abbrev pub isolated_or : Option Node → Bool
isolated_or None = false
isolated_or (Some node) = node.isolated

-- whether node n is isolated; the plan is not
abbrev pub is_isolated_at : Nodes → ℕ → Bool
is_isolated_at t n = isolated_or (node_at t n)

-- the body of a node; where there is none, no body
abbrev pub body_or : Option Node → Option ℕ
body_or None = None
body_or (Some node) = node.body

-- what runs for node n; the plan has no body
abbrev pub body_of : Nodes → ℕ → Option ℕ
body_of t n = body_or (node_at t n)

-- the after-body of a node; where there is none, no after-body
abbrev pub after_or : Option Node → Option ℕ
after_or None = None
after_or (Some node) = node.after

-- what runs after the nodes below node n; the plan has no after-body
abbrev pub after_of : Nodes → ℕ → Option ℕ
after_of t n = after_or (node_at t n)

-- why a node is disabled; where there is none, no reason
abbrev pub reason_or : Option Node → Option (List ℕ)
reason_or None = None
reason_or (Some node) = node.disabled

-- why node n is disabled, none where it is not; the plan is not disabled
abbrev pub reason_of : Nodes → ℕ → Option (List ℕ)
reason_of t n = reason_or (node_at t n)

-- whether node n is disabled; the plan is not
abbrev pub is_disabled : Nodes → ℕ → Bool
is_disabled t n = is_some (reason_of t n)

-- the tags of a node; where there is none, no tag
abbrev pub tags_or : Option Node → List (List ℕ)
tags_or None = []
tags_or (Some node) = node.tags

-- the tags of node n itself; the plan has none
abbrev pub tags_of : Nodes → ℕ → List (List ℕ)
tags_of t n = tags_or (node_at t n)

-- the canonical text of a node's unique id; where there is no node, none
abbrev pub text_or : Option Node → Option (List ℕ)
text_or None = None
text_or (Some node) = Some (spelling node.id)

-- the canonical text of the unique id of node n; the plan has none
abbrev pub text_of : Nodes → ℕ → Option (List ℕ)
text_of t n = text_or (node_at t n)

-- node 0 and the nodes below it, in preorder, within the limits
pub record IsTree (t : Nodes) : Type 0 where
  -- there is the plan
  pub root : 0 < size t
  -- at most 16,383 nodes besides
  pub few : size t ≤ 16384
  -- each node but the plan is told of
  pub nodes_len : length t.nodes + 1 ≡ size t
  -- a parent has a smaller number
  pub up : (n : ℕ) → 0 < n → n < size t → parent_of t n < n
  -- the parent of a node is the node before it, or that one is below the parent
  pub preorder : (n : ℕ) → 0 < n → n < size t → (parent_of t n ≡ n - 1) ⊎ Below t (parent_of t n) (n - 1)
  -- at most 64 steps down
  pub shallow : (n : ℕ) → n < size t → depth_of t n ≤ 64
  -- a node that may hold none has no children
  pub leaf : (n c : ℕ) → IsChild t n c → is_leaf_at t n ≡ false
  -- no two nodes have one unique id
  pub ids : (m n : ℕ) (text : List ℕ) → text_of t m ≡ Some text → text_of t n ≡ Some text → m ≡ n
  -- no two nodes have one body
  pub bodies : (m n b : ℕ) → body_of t m ≡ Some b → body_of t n ≡ Some b → m ≡ n
  -- nor one after-body
  pub afters : (m n b : ℕ) → after_of t m ≡ Some b → after_of t n ≡ Some b → m ≡ n
  -- and what is a body is no after-body
  pub apart : (m n b : ℕ) → body_of t m ≡ Some b → after_of t n ≡ Some b → ⊥
  -- an after-body is that of a node which may hold nodes and is no factory
  pub after_placed : (n b : ℕ) → after_of t n ≡ Some b → (is_leaf_at t n ≡ false) × (is_factory_at t n ≡ false)
  -- a node is a spare exactly where its parent is a factory
  pub spares : (n c : ℕ) → IsChild t n c → is_spare_at t c ≡ is_factory_at t n
  -- a spare is a test that may hold no other node
  pub spare_tests : (n : ℕ) → is_spare_at t n ≡ true → is_leaf_at t n ≡ true
  -- a factory may hold nodes
  pub factories : (n : ℕ) → is_factory_at t n ≡ true → is_leaf_at t n ≡ false
  -- an engine declares no mode and no locks, and is not isolated
  pub engines : (n : ℕ) → IsChild t 0 n → DeclaresNothing (mode_of t n) (locks_of t n) (is_isolated_at t n)
  -- no node's name, reason or key is too long, and none declares too many locks
  pub short : (n : ℕ) (node : Node) → node_at t n ≡ Some node → is_over_limit node ≡ false

-- the plan alone
abbrev pub plan_alone : Nodes
plan_alone = record { parents = 0 ∷ []; nodes = [] }

-- t with one more node, a child of a
abbrev pub appended : Nodes → ℕ → Node → Nodes
appended t a node = record { parents = t.parents ++ a ∷ []; nodes = t.nodes ++ node ∷ [] }

-- Which nodes may have an after-body, and a tree in which a node was given one.
use Rattle.std.specs.Prelude.{ℕ, zero, suc, ◌+◌, ◌==◌, ◌&&◌, not, Bool, false, List, [], ◌∷◌, Option, Some, None}
use Rattle.std.specs.Option.{is_some, is_none}
use Rattle.descriptor.specs.declared.kind.Kind.{Kind}
use Rattle.descriptor.specs.declared.node.Node.{Node}
use Rattle.descriptor.specs.declared.role.Role.{Role}
use Rattle.descriptor.specs.Kinds.{is_container}
use Rattle.descriptor.specs.Nodes.{Nodes, node_at}
use Rattle.descriptor.specs.Roles.{is_factory}

-- whether the body is b
abbrev pub is_body : ℕ → Option ℕ → Bool
is_body b None = false
is_body b (Some other) = other == b

-- the number of the after-body of node n, in a tree whose bodies have the numbers of their nodes: behind all these
abbrev pub after_body : ℕ → ℕ
after_body n = 16384 + n

-- whether one body is the other
abbrev pub is_same_body : Option ℕ → Option ℕ → Bool
is_same_body None after = false
is_same_body (Some b) after = is_body b after

-- whether a node's body is its after-body, too
abbrev pub repeats_itself : Node → Bool
repeats_itself node = is_same_body node.body node.after

-- whether a node of this kind and role may have an after-body: it may hold nodes and is no factory
abbrev pub takes_after : Kind → Role → Bool
takes_after kind role = is_container kind && not (is_factory role)

-- whether a node has an after-body that it may not have
abbrev pub has_misplaced_after : Node → Bool
has_misplaced_after node = is_some node.after && not (takes_after node.kind node.role)

-- whether a node may be given an after-body: it may have one, and has none
abbrev pub may_get_after : Node → Bool
may_get_after node = is_none node.after && takes_after node.kind node.role

-- whether a node that may be missing may be given an after-body; what is missing may not
abbrev pub may_get_after_or : Option Node → Bool
may_get_after_or None = false
may_get_after_or (Some node) = may_get_after node

-- whether node n may be given an after-body; the plan may not
abbrev pub may_get_after_at : Nodes → ℕ → Bool
may_get_after_at t n = may_get_after_or (node_at t n)

-- the node with this after-body, and as it was in all else
abbrev pub given_after : ℕ → Node → Node
given_after b node = record node { after = Some b }

-- the nodes, that at place i with this after-body
abbrev pub given_after_at : ℕ → ℕ → List Node → List Node
given_after_at b i [] = []
given_after_at b zero (node ∷ nodes) = given_after b node ∷ nodes
given_after_at b (suc i) (node ∷ nodes) = node ∷ given_after_at b i nodes

-- the tree in which node n has this after-body; of the plan nothing is told
abbrev pub with_after : Nodes → ℕ → ℕ → Nodes
with_after t zero b = t
with_after t (suc n) b = record { parents = t.parents; nodes = given_after_at b n t.nodes }

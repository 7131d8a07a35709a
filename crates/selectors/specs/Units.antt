-- The units of a tree: what is selected, and dealt out to shards, one by one.
use Rattle.std.specs.Prelude.{ℕ, ◌&&◌, ◌||◌, not, Bool, List}
use Rattle.std.specs.List.{filter_map}
use Rattle.descriptor.specs.declared.kind.Kind.{Kind}
use Rattle.descriptor.specs.declared.node.Node.{Node}
use Rattle.descriptor.specs.declared.role.Role.{Role}
use Rattle.descriptor.specs.Kinds.{is_test}
use Rattle.descriptor.specs.Nodes.{Nodes, size, kind_of, role_of, node_at, numbers_where}
use Rattle.descriptor.specs.Roles.{is_factory, is_spare}

-- whether a node of this kind and role may be selected: it is a factory, or a test that is no spare
abbrev pub is_selectable : Kind → Role → Bool
is_selectable kind role = is_factory role || (is_test kind && not (is_spare role))

-- whether node n is a unit: it may be selected
abbrev pub is_unit : Nodes → ℕ → Bool
is_unit t n = is_selectable (kind_of t n) (role_of t n)

-- what is told of the units, in the tree's order
abbrev pub units : Nodes → List Node
units t = filter_map (node_at t) (numbers_where (is_unit t) (size t))

-- The class name of a node, and the name of a method.
use Rattle.std.specs.Prelude.{ℕ, ◌-◌, ◌||◌, List, [], ◌∷◌, ◌++◌, length, slice_get, codes, Bool, false, if◌then◌else◌, Option, Some, None}
use Rattle.std.specs.Str.{bytes_eq}
use Rattle.unique_id.specs.declared.unique_id.Segment.{Segment}
use Rattle.descriptor.specs.declared.node.Node.{Node}
use Rattle.descriptor.specs.Nodes.{Nodes, node_at, parent_of}
use Rattle.selectors.specs.Lineages.{lineage}

-- what a unique id ends in
abbrev pub last_of : List Segment → Option Segment
last_of segments = slice_get segments (length segments - 1)

-- what the id of a node ends in; where there is none, nothing
abbrev pub last_or : Option Node → Option Segment
last_or None = None
last_or (Some node) = last_of node.id

-- what the id of node n ends in; the plan has no id
abbrev pub last_segment : Nodes → ℕ → Option Segment
last_segment t n = last_or (node_at t n)

-- the name of a class inside the class above it: that class's name, a dollar sign (36) and its own value; none where the one above has none
abbrev pub nested_name : Option (List ℕ) → List ℕ → Option (List ℕ)
nested_name None value = None
nested_name (Some outer) value = Some (outer ++ 36 ∷ value)

-- the class name of a node whose id ends in this segment, right below one of that class name: only classes and nested classes have one
abbrev pub name_below : Option (List ℕ) → Option Segment → Option (List ℕ)
name_below above None = None
name_below above (Some segment) =
    if bytes_eq segment.kind (codes "class") then Some segment.value
    else (if bytes_eq segment.kind (codes "nested-class") then nested_name above segment.value else None)

-- the class name of the first node of a path that leads up
abbrev pub name_along : Nodes → List ℕ → Option (List ℕ)
name_along t [] = None
name_along t (n ∷ above) = name_below (name_along t above) (last_segment t n)

-- the class name of node n, if it has one
abbrev pub class_name : Nodes → ℕ → Option (List ℕ)
class_name t n = name_along t (lineage t n)

-- whether there is a text, and it is this one
abbrev pub is_text : Option (List ℕ) → List ℕ → Bool
is_text None text = false
is_text (Some other) text = bytes_eq other text

-- a segment of a method or of a test factory
abbrev pub is_of_method : Segment → Bool
is_of_method segment = bytes_eq segment.kind (codes "method") || bytes_eq segment.kind (codes "test-factory")

-- the name of a method whose id ends in this segment, right below a node of that class name: the class name, a hash (35) and the segment's value
abbrev pub method_below : Option (List ℕ) → Option Segment → Option (List ℕ)
method_below above None = None
method_below None (Some segment) = None
method_below (Some class) (Some segment) = if is_of_method segment then Some (class ++ 35 ∷ segment.value) else None

-- the name of node n, `CLASS#METHOD`: only methods and test factories right below a node with a class name have one
abbrev pub method_name : Nodes → ℕ → Option (List ℕ)
method_name t n = method_below (class_name t (parent_of t n)) (last_segment t n)

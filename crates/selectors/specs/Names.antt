-- The nodes that a selector names, and those that it covers.
use Rattle.std.specs.Prelude.{◌≡◌, ◌⊎◌, ℕ, ◌&&◌, ◌||◌, nat_eq, List, [], ◌∷◌, ◌++◌, codes, Bool, true, false, Option, Some, None}
use Rattle.std.specs.List.{list_any, starts_with}
use Rattle.std.specs.Str.{bytes_eq}
use Rattle.unique_id.specs.Spelling.{spelling}
use Rattle.unique_id.specs.declared.unique_id.Segment.{Segment}
use Rattle.descriptor.specs.Nodes.{Nodes, IsChild, parent_of, children_of, text_of, is_factory_at, is_spare_at}
use Rattle.selectors.specs.declared.selector.Selector.{Selector}
use Rattle.selectors.specs.declared.selector.Selector.TheVariants.{Uid, Class, Method, Package, Name}
use Rattle.selectors.specs.ClassNames.{last_segment, class_name, method_name, is_of_method, is_text}
use Rattle.selectors.specs.Lineages.{lineage, AtOrBelow}
use Rattle.selectors.specs.Patterns.{Matches, is_match}

-- a segment of type `method` or `test-factory` with this value
abbrev pub is_method : List ℕ → Option Segment → Bool
is_method method None = false
is_method method (Some segment) = is_of_method segment && bytes_eq segment.value method

-- a segment of type `class` whose value begins with the name of a package and a dot (46)
abbrev pub is_class_in : List ℕ → Option Segment → Bool
is_class_in name None = false
is_class_in name (Some segment) = bytes_eq segment.kind (codes "class") && starts_with nat_eq segment.value (name ++ 46 ∷ [])

-- whether node n is a factory, and a spare of it has the unique id of this canonical text
abbrev pub has_spare : Nodes → List ℕ → ℕ → Bool
has_spare t text n = is_factory_at t n && list_any (λ c. is_text (text_of t c) text) (children_of t n)

-- whether there is a name, and this pattern matches it
abbrev pub is_match_of : List ℕ → Option (List ℕ) → Bool
is_match_of pattern None = false
is_match_of pattern (Some name) = is_match pattern name

-- whether a selector names node n: the node of its unique id, and where this is a spare its factory; those of its class name; those methods
-- right below them; the classes of its package; the methods whose name its pattern matches
abbrev pub names : Nodes → Selector → ℕ → Bool
names t (Uid id) n = is_text (text_of t n) (spelling id) || has_spare t (spelling id) n
names t (Class class) n = is_text (class_name t n) class
names t (Method class method) n = is_method method (last_segment t n) && is_text (class_name t (parent_of t n)) class
names t (Package name) n = is_class_in name (last_segment t n)
names t (Name pattern) n = is_match_of pattern (method_name t n)

-- node n has a name, and this pattern matches it
abbrev pub HasMatchingName : Nodes → List ℕ → ℕ → Type 0
HasMatchingName t pattern n = (name : List ℕ) × (method_name t n ≡ Some name) × Matches pattern name

-- node n has this unique id
abbrev pub HasId : Nodes → List Segment → ℕ → Type 0
HasId t id n = text_of t n ≡ Some (spelling id)

-- node n has this unique id, or a spare has it whose factory node n is
abbrev pub HasIdOrSpare : Nodes → List Segment → ℕ → Type 0
HasIdOrSpare t id n = HasId t id n ⊎ ((c : ℕ) × IsChild t n c × (is_spare_at t c ≡ true) × HasId t id c)

-- whether a selector covers node n: it names the node, or one that the node is below
abbrev pub covers : Nodes → Selector → ℕ → Bool
covers t selector n = list_any (names t selector) (lineage t n)

-- that a selector covers node n: it names n, or a node that n is below
abbrev pub Covers : Nodes → Selector → ℕ → Type 0
Covers t selector n = (a : ℕ) × (names t selector a ≡ true) × AtOrBelow t a n

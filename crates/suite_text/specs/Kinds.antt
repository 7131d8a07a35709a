-- What nodes and bodies a suite has, in terms of its tree: of a line no more is looked at than the keyword that it begins with.
use Rattle.std.specs.Prelude.{◌≡◌, ◌<◌, ℕ, zero, suc, ◌+◌, List, [], ◌∷◌, ◌++◌, length, codes, if◌then◌else◌, Option, Some, None, option_to_list, IfSome, slice_get}
use Rattle.std.specs.List.{flat_map}
use Rattle.std.specs.Option.{is_some, is_none}
use Rattle.unique_id.specs.declared.unique_id.Segment.{Segment}
use Rattle.descriptor.specs.declared.kind.Kind.{Kind}
use Rattle.descriptor.specs.declared.kind.Kind.TheVariants as kinds
use Rattle.descriptor.specs.declared.node.Node.{Node}
use Rattle.descriptor.specs.declared.role.Role.{Role}
use Rattle.descriptor.specs.declared.role.Role.TheVariants as roles
use Rattle.descriptor.specs.Nodes.{Nodes, size, node_at, parent_of}
use Rattle.suite_words.specs.declared.suite.words.Word.{Word}
use Rattle.suite_words.specs.declared.suite.words.Word.TheVariants.{Engine, Class, Test, Factory, Dyn}
use Rattle.suite_words.specs.Reading.After.{after_body}
use Rattle.suite_words.specs.Reading.Lines.{says_nothing, first_word}
use Rattle.suite_words.specs.Reading.Words.{word_of}

-- the keyword of a line that declares a node
abbrev pub word_in : List ℕ → Option Word
word_in line = if says_nothing line then None else word_of (first_word line)

-- those of all lines, in order
abbrev pub words_of : List (List ℕ) → List Word
words_of lines = flat_map (λ line. option_to_list (word_in line)) lines

-- there is a node for each of these keywords, in order, of which this holds, and no other
pub record AreNodesOf (Holds : Word → ℕ → Node → Type 0) (t : Nodes) (words : List Word) : Type 0 where
  pub many : size t ≡ length words + 1
  pub each : (n : ℕ) (word : Word) → slice_get words n ≡ Some word → (node : Node) × (node_at t (suc n) ≡ Some node) × Holds word (suc n) node

-- what node n is, by what it may hold, by its role and by the node that it is right below: engines are right below the plan
abbrev pub IsA : Nodes → Word → ℕ → Node → Type 0
IsA t Engine n node = (node.kind ≡ kinds.Container) × (node.role ≡ roles.Plain) × (parent_of t n ≡ 0)
IsA t Class n node = (node.kind ≡ kinds.Container) × (node.role ≡ roles.Plain) × (0 < parent_of t n)
IsA t Test n node = (node.kind ≡ kinds.Test) × (node.role ≡ roles.Plain)
IsA t Factory n node = (node.kind ≡ kinds.Container) × (node.role ≡ roles.Factory)
IsA t Dyn n node = (node.kind ≡ kinds.Test) × (node.role ≡ roles.Spare)

-- the type of a node's segment, by its role, by what it may hold, and by the numbers of its parent and of that one's parent: a class is nested unless it is right below an engine
abbrev pub type_by : Role → Kind → ℕ → ℕ → List ℕ
type_by roles.Factory kind parent above = codes "test-factory"
type_by roles.Spare kind parent above = codes "dynamic-test"
type_by roles.Plain kinds.Test parent above = codes "method"
type_by roles.Plain kind zero above = codes "engine"
type_by roles.Plain kind (suc parent) zero = codes "class"
type_by roles.Plain kind (suc parent) (suc above) = codes "nested-class"

abbrev pub type_at : Nodes → ℕ → Node → List ℕ
type_at t n node = type_by node.role node.kind (parent_of t n) (parent_of t (parent_of t n))

-- node n is what a line of this keyword declares, and its unique id ends in a segment of its type
pub record IsKind (t : Nodes) (word : Word) (n : ℕ) (node : Node) : Type 0 where
  pub is : IsA t word n node
  pub above : List Segment
  pub value : List ℕ
  pub id : node.id ≡ above ++ record { kind = type_at t n node; value = value } ∷ []

-- which nodes have a body: an engine has none and is not disabled, a class may have one, and all others have one unless they are disabled
abbrev pub MayRun : Word → Node → Type 0
MayRun Engine node = (node.body ≡ None) × (node.disabled ≡ None)
MayRun Class node = Unit {0}
MayRun word node = is_some node.body ≡ is_none node.disabled

-- the body of node n has the node's number; an after-body has one above all these, and is a class's
pub record HasBodies (word : Word) (n : ℕ) (node : Node) : Type 0 where
  pub runs : MayRun word node
  pub body : IfSome node.body (λ b. b ≡ n)
  pub after : IfSome node.after (λ b. (b ≡ after_body n) × (word ≡ Class))

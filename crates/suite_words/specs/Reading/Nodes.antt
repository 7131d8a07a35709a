-- The node that a line declares.
use Rattle.std.specs.Prelude.{ℕ, ◌+◌, ◌&&◌, Bool, List, [], ◌∷◌, ◌++◌, length, codes, if◌then◌else◌, Option, Some, None, option_map}
use Rattle.std.specs.Fmt.{decimal}
use Rattle.std.specs.Option.{is_some, is_none}
use Rattle.unique_id.specs.declared.unique_id.Segment.{Segment}
use Rattle.unique_id.specs.Spelling as ids
use Rattle.descriptor.specs.declared.kind.Kind.{Kind}
use Rattle.descriptor.specs.declared.kind.Kind.TheVariants as kinds
use Rattle.descriptor.specs.declared.node.Node.{Node}
use Rattle.descriptor.specs.Nodes.{Nodes, node_at, children_of}
use Rattle.descriptor.specs.PlainNodes.{plain}
use Rattle.descriptor.specs.Roles.{is_factory, is_spare}
use Rattle.descriptor.specs.declared.role.Role.{Role}
use Rattle.descriptor.specs.declared.role.Role.TheVariants as roles
use Rattle.suite_words.specs.declared.suite.pulls.Pending.{Pending}
use Rattle.suite_words.specs.declared.suite.words.Word.{Word}
use Rattle.suite_words.specs.declared.suite.words.Word.TheVariants.{Engine, Class, Test, Factory, Dyn}
use Rattle.suite_words.specs.declared.suite.verdicts.Verdict.{Verdict}
use Rattle.suite_words.specs.Reading.Attributes.{spin_said, pulls_said}
use Rattle.suite_words.specs.Reading.Scripts.{ending}
use Rattle.suite_words.specs.Reading.Verdicts.{status_declared, reason_declared}
use Rattle.suite_words.specs.Reading.Words.{Declaration}

-- the unique id of a node that may be missing: no segments
abbrev pub id_or_none : Option Node → List Segment
id_or_none None = []
id_or_none (Some node) = node.id

-- the segments of a node's unique id; the plan has none
abbrev pub id_at : Nodes → ℕ → List Segment
id_at t n = id_or_none (node_at t n)

-- the type of a node's segment: `class` right in an engine, `nested-class` in a class
abbrev pub segment_kind : Option Word → Word → List ℕ
segment_kind parent Engine = codes "engine"
segment_kind (Some Engine) Class = codes "class"
segment_kind parent Class = codes "nested-class"
segment_kind parent Test = codes "method"
segment_kind parent Factory = codes "test-factory"
segment_kind parent Dyn = codes "dynamic-test"

-- engines, classes and factories hold other nodes, a test is a test
abbrev pub kind_declared : Word → Kind
kind_declared Engine = kinds.Container
kind_declared Class = kinds.Container
kind_declared Test = kinds.Test
kind_declared Factory = kinds.Container
kind_declared Dyn = kinds.Test

-- a factory is one, and a dynamic test one of its spares
abbrev pub role_declared : Word → Role
role_declared Engine = roles.Plain
role_declared Class = roles.Plain
role_declared Test = roles.Plain
role_declared Factory = roles.Factory
role_declared Dyn = roles.Spare

-- the value of a segment of the k-th dynamic test of a factory, from 1
abbrev pub value_of_dyn : ℕ → List ℕ
value_of_dyn k = 35 ∷ decimal k

-- the value of a segment of what is declared as the k-th in its parent: a name, but of a dynamic test
abbrev pub value_declared : Declaration → ℕ → List ℕ
value_declared d k = if is_spare (role_declared d.word) then value_of_dyn k else d.name

-- a body, which a node has by its verdict, has the number of the node
abbrev pub body_declared : Option Verdict → ℕ → Option ℕ
body_declared verdict n = option_map (λ status. n) (status_declared verdict)

-- whether it is pulled once for each line of its factory: the factory's line does not say how often
abbrev pub counts_lines : Declaration → Bool
counts_lines d = is_factory (role_declared d.word) && is_none d.attributes.pulls

-- its script: the verdict's status, and the text that follows the verdict
abbrev pub script_declared : Declaration → ℕ → Option Pending
script_declared d n =
    option_map (λ status. record { script = ending n (spin_said d.attributes) d.attributes.slow (pulls_said d.attributes) status d.text; counts = counts_lines d }) (status_declared d.verdict)

-- the id of what is declared as the k-th below a node with this keyword and these segments
abbrev pub id_declared : Option Word → List Segment → ℕ → Declaration → List Segment
id_declared parent segments k d = segments ++ record { kind = segment_kind parent d.word; value = value_declared d k } ∷ []

-- the node of number n with these segments that is declared
abbrev pub node_with : ℕ → List Segment → Declaration → Node
node_with n segments d = record (plain segments d.name (kind_declared d.word)) {
  role = role_declared d.word;
  mode = d.attributes.mode;
  locks = d.attributes.locks;
  isolated = d.attributes.isolated;
  body = body_declared d.verdict n;
  disabled = reason_declared d.verdict d.text;
  tags = d.attributes.tags;
}

-- the node of number n that is declared as the k-th below one with this keyword and these segments
abbrev pub node_declared : ℕ → Option Word → List Segment → ℕ → Declaration → Node
node_declared n parent segments k d = node_with n (id_declared parent segments k d) d

-- whether the unique id of a node below these segments is over its limits; no token is empty, so nothing else refuses it
abbrev pub is_over_limit : List Segment → Option Word → ℕ → Declaration → Bool
is_over_limit segments parent k d = is_some (ids.refusal segments (segment_kind parent d.word) (value_declared d k))

-- which child of node a, from 1, the next one is
abbrev pub next_place : Nodes → ℕ → ℕ
next_place t a = length (children_of t a) + 1

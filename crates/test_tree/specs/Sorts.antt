-- What a node is, in the keywords of a suite.
use Rattle.std.specs.Prelude.{ℕ, List, Option, Some, None}
use Rattle.descriptor.specs.declared.kind.Kind.{Kind}
use Rattle.descriptor.specs.declared.role.Role.{Role}
use Rattle.descriptor.specs.Nodes.{Nodes}
use Rattle.suite_words.specs.declared.suite.words.Word.{Word}
use Rattle.suite_words.specs.declared.suite.words.Word.TheVariants as words
use Rattle.suite_words.specs.Reading.Nodes.{segment_kind, kind_declared, role_declared, value_of_dyn, next_place}
use Rattle.test_tree.specs.declared.sort.Sort.{Sort}
use Rattle.test_tree.specs.declared.sort.Sort.TheVariants.{Engine, Class, Nested, Test, Factory, Dynamic}

-- the keyword of a suite's line that declares such a node
abbrev pub word_of : Sort → Word
word_of Engine = words.Engine
word_of Class = words.Class
word_of Nested = words.Class
word_of Test = words.Test
word_of Factory = words.Factory
word_of Dynamic = words.Dyn

-- and that of the line which it hangs below
abbrev pub word_above : Sort → Option Word
word_above Engine = None
word_above Class = Some words.Engine
word_above Nested = Some words.Class
word_above Test = Some words.Class
word_above Factory = Some words.Class
word_above Dynamic = Some words.Factory

-- the type of its segment
abbrev pub type_of : Sort → List ℕ
type_of sort = segment_kind (word_above sort) (word_of sort)

-- the value of its segment, below node a: its name, but of a dynamic test its place
abbrev pub value_below : Nodes → ℕ → Sort → List ℕ → List ℕ
value_below t a Dynamic name = value_of_dyn (next_place t a)
value_below t a sort name = name

abbrev pub kind_of : Sort → Kind
kind_of sort = kind_declared (word_of sort)

abbrev pub role_of : Sort → Role
role_of sort = role_declared (word_of sort)

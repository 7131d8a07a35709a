-- What a line that declares a node adds.
use Rattle.std.specs.Prelude.{ℕ, Bool, [], ◌∷◌, ◌++◌, take, cond, Option, Some, None, option_to_list, Result, Ok, Err}
use Rattle.descriptor.specs.declared.node.Node.{Node}
use Rattle.descriptor.specs.declared.fault.TreeFault.{TreeFault}
use Rattle.descriptor.specs.declared.fault.TreeFault.TheVariants.{OverLimit}
use Rattle.descriptor.specs.Nodes.{size, appended}
use Rattle.descriptor.specs.Refusals as trees
use Rattle.suite_words.specs.declared.suite.words.Word.{Word}
use Rattle.suite_words.specs.declared.suite.fault.SuiteFault.{SuiteFault}
use Rattle.suite_words.specs.declared.suite.fault.SuiteFault.TheVariants.{Refused}
use Rattle.suite_text.specs.Reading.Parts.{LinesRead, above, word_of_opened, node_of_opened}
use Rattle.suite_words.specs.Reading.Words.{Declaration}
use Rattle.suite_words.specs.Reading.Nodes.{id_at, script_declared, node_declared, is_over_limit, next_place}

-- the node that a line of this level hangs below
abbrev pub parent_on : LinesRead → ℕ → ℕ
parent_on read level = node_of_opened (above read.path level)

-- which of its children, from 1, the line declares
abbrev pub place_on : LinesRead → ℕ → ℕ
place_on read level = next_place read.tree (parent_on read level)

-- its keyword
abbrev pub word_on : LinesRead → ℕ → Option Word
word_on read level = word_of_opened (above read.path level)

-- the node that is declared on a level
abbrev pub node_on : LinesRead → ℕ → Declaration → Node
node_on read level d = node_declared (size read.tree) (word_on read level) (id_at read.tree (parent_on read level)) (place_on read level) d

-- whether its id is over its limits
abbrev pub is_over_limit_on : LinesRead → ℕ → Declaration → Bool
is_over_limit_on read level d = is_over_limit (id_at read.tree (parent_on read level)) (word_on read level) (place_on read level) d

-- why it is refused: an id over its limits first, then what the tree refuses
abbrev pub refusal_on : LinesRead → ℕ → Declaration → Option TreeFault
refusal_on read level d = cond (is_over_limit_on read level d) (Some OverLimit) (trees.refusal read.limit read.tree (parent_on read level) (node_on read level d))

-- with the node that is declared on a level
abbrev pub grown : LinesRead → ℕ → Declaration → LinesRead
grown read level d = record {
  limit = read.limit;
  tree = appended read.tree (parent_on read level) (node_on read level d);
  path = take level read.path ++ record { node = size read.tree; word = d.word } ∷ [];
  scripts = read.scripts ++ option_to_list (script_declared d (size read.tree));
  afters = read.afters;
  properties = read.properties;
}

-- what is made, unless it is refused at this line
abbrev pub unless_refused : ℕ → Option TreeFault → LinesRead → Result LinesRead SuiteFault
unless_refused number None read = Ok read
unless_refused number (Some fault) read = Err (Refused fault number)

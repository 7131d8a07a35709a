-- What the lines of a suite that were read have made.
use Rattle.std.specs.Prelude.{◌≡◌, ℕ, zero, suc, List, [], Option, Some, None, option_map, option_to_list, map, ◌++◌, slice_get}
use Rattle.std.specs.List.{flat_map}
use Rattle.config_params.specs.Parameters.{Parameters, nothing_said}
use Rattle.std.specs.List.Sorted.{IsPermutation}
use Rattle.descriptor.specs.declared.node.Node.{Node}
use Rattle.descriptor.specs.Nodes.{Nodes, plan_alone}
use Rattle.suite_words.specs.declared.script.Script.{Script}
use Rattle.suite_words.specs.declared.suite.pulls.Pending.{Pending}
use Rattle.suite_text.specs.declared.suite.builder.Opened.{Opened}
use Rattle.suite_words.specs.declared.suite.words.Word.{Word}
use Rattle.suite_words.specs.Reading.Pulls.{settled}

-- the tree of a suite, what its bodies answer, and what it says of the configuration
pub record SuiteParts : Type 0 where
  pub tree : Nodes
  pub scripts : List Script
  pub properties : Parameters

-- what lines have made: the tree, the scripts of bodies, whose pulls may not be known yet, those of after-bodies, and what they say of the configuration
pub record Made : Type 0 where
  pub tree : Nodes
  pub scripts : List Pending
  pub afters : List Script
  pub properties : Parameters

-- after the last line: the scripts of bodies, whose pulls are known then, and behind them those of after-bodies
abbrev pub suite_made : Made → SuiteParts
suite_made made = record { tree = made.tree; scripts = map (settled made.tree) made.scripts ++ made.afters; properties = made.properties }

-- so far, where there may be so many nodes besides the plan: `path` has the last node line's node and those above it, from level 0 on
pub record LinesRead : Type 0 where
  pub limit : ℕ
  pub tree : Nodes
  pub path : List Opened
  pub scripts : List Pending
  pub afters : List Script
  pub properties : Parameters

-- before the first line
abbrev pub no_lines : ℕ → LinesRead
no_lines limit = record { limit = limit; tree = plan_alone; path = []; scripts = []; afters = []; properties = nothing_said }

-- without the limit and the path
abbrev pub made_of : LinesRead → Made
made_of read = record { tree = read.tree; scripts = read.scripts; afters = read.afters; properties = read.properties }

-- what is left of it after the last line
abbrev pub parts_of : LinesRead → SuiteParts
parts_of read = suite_made (made_of read)

-- the open node that a line of this level hangs below; none at level 0
abbrev pub above : List Opened → ℕ → Option Opened
above path zero = None
above path (suc level) = slice_get path level

-- its keyword
abbrev pub word_of_opened : Option Opened → Option Word
word_of_opened opened = option_map (λ o. o.word) opened

-- its node, or the plan
abbrev pub node_of_opened : Option Opened → ℕ
node_of_opened None = 0
node_of_opened (Some opened) = opened.node

-- the bodies of nodes, in the nodes' order
abbrev pub bodies_of : List Node → List ℕ
bodies_of nodes = flat_map (λ node. option_to_list node.body) nodes

-- the bodies that scripts are for
abbrev pub bodies_answered : List Script → List ℕ
bodies_answered scripts = map (λ script. script.body) scripts

-- the after-bodies of nodes, in the nodes' order
abbrev pub afters_of : List Node → List ℕ
afters_of nodes = flat_map (λ node. option_to_list node.after) nodes

-- these are the bodies of nodes, in the nodes' order, and behind them their after-bodies, each once, in the order of their lines
pub record AreBodiesOf (nodes : List Node) (bodies : List ℕ) : Type 0 where
  pub afters : List ℕ
  pub order : bodies ≡ bodies_of nodes ++ afters
  pub each_after : IsPermutation (afters_of nodes) afters

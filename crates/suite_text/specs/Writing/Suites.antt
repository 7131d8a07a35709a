-- What may be written as a suite: nodes that stand in nodes, each with its line, and after-bodies, the texts that spell it, and the suite that it means.
use Rattle.std.specs.Prelude.{◌≡◌, ◌≢◌, ◌<◌, ◌≤◌, ℕ, suc, ◌+◌, ◌-◌, ◌==◌, ◌⊎◌, true, false, List, [], ◌∷◌, ◌++◌, length, slice_index, Option, option_to_list}
use Rattle.std.specs.List.{AllByRecursion, flat_map}
use Rattle.config_params.specs.Parameters.{Parameters, nothing_said}
use Rattle.descriptor.specs.declared.node.Node.{Node}
use Rattle.descriptor.specs.Nodes.{IsTree, plan_alone, size, appended}
use Rattle.unique_id.specs.declared.unique_id.Segment.{Segment}
use Rattle.unique_id.specs.Spelling.{spelling}
use Rattle.suite_text.specs.declared.suite.builder.Opened.{Opened}
use Rattle.suite_words.specs.Limits.{node_limit, byte_limit}
use Rattle.suite_words.specs.Reading.Nodes.{id_at, next_place, node_declared, script_declared}
use Rattle.suite_text.specs.Reading.Parts.{SuiteParts, Made, suite_made, above, word_of_opened, node_of_opened}
use Rattle.suite_words.specs.Words.{is_space}
use Rattle.suite_text.specs.Writing.AfterLines.{AfterLine, after_text, IsAfterLine, with_after_item, TakesAfter}
use Rattle.suite_text.specs.Writing.Lines.{NodeLine, node_text, declares, IsNodeLine}
use Rattle.suite_text.specs.Writing.Properties.{Property, property_text, IsProperty, said_to}

-- how a line ends: with a line feed, with a carriage return before it, or, the last one, with the text
pub data LineEnd : Type 0 where
  Feed : LineEnd
  ReturnFeed : LineEnd
  TextEnd : LineEnd

abbrev pub end_text : LineEnd → List ℕ
end_text Feed = 10 ∷ []
end_text ReturnFeed = 13 ∷ 10 ∷ []
end_text TextEnd = []

-- a line and its end
pub record Line : Type 0 where
  pub text : List ℕ
  pub end : LineEnd

-- the text of lines
abbrev pub text_of_lines : List Line → List ℕ
text_of_lines lines = flat_map (λ line. line.text ++ end_text line.end) lines

-- a line with this end may stand before these: a return before a line feed belongs to the end, and only a last line that is not empty may do without one
abbrev pub MayEndWith : LineEnd → List ℕ → List Line → Type 0
MayEndWith Feed text more = slice_index text (length text - 1) ≢ 13
MayEndWith ReturnFeed text more = Unit {0}
MayEndWith TextEnd text more = (more ≡ []) × (0 < length text)

-- lines hold no line feed, and end as they may
abbrev pub AreLines : List Line → Type 0
AreLines [] = Unit {0}
AreLines (line ∷ more) = AllByRecursion (λ byte. (byte == 10) ≡ false) line.text × MayEndWith line.end line.text more × AreLines more

-- a line that says nothing: it begins with a number sign, or all of it are spaces
abbrev pub SaysNothing : Line → Type 0
SaysNothing line = ((rest : List ℕ) × (line.text ≡ 35 ∷ rest)) ⊎ AllByRecursion (λ byte. is_space byte ≡ true) line.text

-- what stands in one node: nothing; or a node behind lines that say nothing, with what stands in it, and what follows it; or behind such lines the line of an after-body, which may be that of a class further out
-- (it stands on the level of what stands in its class), and what follows it
pub data Items : Type 0 where
  NoMore : Items
  Item : (before : List Line) → (line : NodeLine) → (end : LineEnd) → (inside after : Items) → Items
  AfterItem : (before : List Line) → (level : ℕ) → (line : AfterLine) → (end : LineEnd) → (after : Items) → Items

-- their lines, on a level; what stands in a node stands one level below it
abbrev pub lines_of_items : ℕ → Items → List Line
lines_of_items level NoMore = []
lines_of_items level (Item before line end inside after) =
    before ++ (record { text = node_text level line; end = end } ∷ (lines_of_items (suc level) inside ++ lines_of_items level after))
lines_of_items level (AfterItem before own line end after) = before ++ (record { text = after_text own line; end = end } ∷ lines_of_items level after)

-- the line of a property, behind lines that say nothing
pub record PropertyLine : Type 0 where
  pub before : List Line
  pub property : Property
  pub end : LineEnd

-- their lines
abbrev pub lines_of_properties : List PropertyLine → List Line
lines_of_properties [] = []
lines_of_properties (line ∷ more) = line.before ++ (record { text = property_text line.property; end = line.end } ∷ lines_of_properties more)

-- what they say, one after the other
abbrev pub all_said_to : Parameters → List PropertyLine → Parameters
all_said_to params [] = params
all_said_to params (line ∷ more) = all_said_to (said_to params line.property) more

-- a suite as it is written: what it says of the configuration, its engines, and at the end lines that say nothing
pub record Written : Type 0 where
  pub properties : List PropertyLine
  pub engines : Items
  pub after : List Line

abbrev pub lines_of_written : Written → List Line
lines_of_written written = lines_of_properties written.properties ++ (lines_of_items 0 written.engines ++ written.after)

abbrev pub text_of_written : Written → List ℕ
text_of_written written = text_of_lines (lines_of_written written)

-- of the nodes that something stands in, from level 0 on, that in which it stands right; at level 0 there is none
abbrev pub innermost : List Opened → Option Opened
innermost places = above places (length places)

-- the node that a line declares right in this one, or at level 0 where there is none: it has the next number
abbrev pub node_in : Made → Option Opened → NodeLine → Node
node_in made place line =
    node_declared (size made.tree) (word_of_opened place) (id_at made.tree (node_of_opened place)) (next_place made.tree (node_of_opened place)) (declares line)

-- with that node as the last of the tree, and its script
abbrev pub with_item : Made → Option Opened → NodeLine → Made
with_item made place line = record {
  tree = appended made.tree (node_of_opened place) (node_in made place line);
  scripts = made.scripts ++ option_to_list (script_declared (declares line) (size made.tree));
  afters = made.afters;
  properties = made.properties;
}

-- the nodes that something in that node stands in
abbrev pub in_item : Made → List Opened → NodeLine → List Opened
in_item made places line = places ++ record { node = size made.tree; word = line.word } ∷ []

-- with all that stands in these nodes: a node, what stands in it, what follows it; or the after-body of that node which is open on the line's level, and what follows it
abbrev pub with_items : Made → List Opened → Items → Made
with_items made places NoMore = made
with_items made places (Item before line end inside after) =
    with_items (with_items (with_item made (innermost places) line) (in_item made places line) inside) places after
with_items made places (AfterItem before level line end after) = with_items (with_after_item made (node_of_opened (above places level)) line) places after

-- the plan alone, with these properties
abbrev pub nothing_made : Parameters → Made
nothing_made properties = record { tree = plan_alone; scripts = []; afters = []; properties = properties }

-- the plan alone, with what is said of the configuration
abbrev pub before_engines : Written → Made
before_engines written = nothing_made (all_said_to nothing_said written.properties)

-- the suite that is meant
abbrev pub meant : Written → SuiteParts
meant written = suite_made (with_items (before_engines written) [] written.engines)

-- items may be written in these nodes, behind what was made before
abbrev pub AreItems : Made → List Opened → Items → Type 0
AreItems made places NoMore = Unit {0}
AreItems made places (Item before line end inside after) =
    AllByRecursion SaysNothing before × IsNodeLine (word_of_opened (innermost places)) line × AreItems (with_item made (innermost places) line) (in_item made places line) inside
    × AreItems (with_items (with_item made (innermost places) line) (in_item made places line) inside) places after
AreItems made places (AfterItem before level line end after) =
    AllByRecursion SaysNothing before × (level ≤ length places) × TakesAfter made.tree (above places level) × IsAfterLine line × AreItems (with_after_item made (node_of_opened (above places level)) line) places after

-- a unique id within its limits: 64 segments, and 1,024 bytes as it is spelled
abbrev pub IsShortId : List Segment → Type 0
IsShortId id = (length id ≤ 64) × (length (spelling id) ≤ 1024)

-- a suite may be written so, where so many nodes were asked for: each line may stand where it stands, and what they mean is a tree, with no id twice and nothing too long
pub record IsWritten (most : Option ℕ) (written : Written) : Type 0 where
  pub properties : AllByRecursion (λ line. AllByRecursion SaysNothing line.before × IsProperty line.property) written.properties
  pub items : AreItems (before_engines written) [] written.engines
  pub after : AllByRecursion SaysNothing written.after
  pub lines : AreLines (lines_of_written written)
  pub tree : IsTree (meant written).tree
  pub few : size (meant written).tree ≤ node_limit most + 1
  pub ids : AllByRecursion (λ node. IsShortId node.id) (meant written).tree.nodes
  pub short : length (text_of_written written) ≤ byte_limit most

-- the text is one that may be written for this suite, where so many nodes were asked for
pub record IsSuite (most : Option ℕ) (text : List ℕ) (parts : SuiteParts) : Type 0 where
  pub written : Written
  pub is_written : IsWritten most written
  pub text_is : text ≡ text_of_written written
  pub parts_are : parts ≡ meant written

-- The suite of a text, line by line, or its first fault.
use Rattle.std.specs.Prelude.{ℕ, ◌+◌, ◌==◌, ◌&&◌, nat_lt, Bool, List, [], ◌∷◌, length, if◌then◌else◌, Option, Result, Ok, Err}
use Rattle.std.specs.Str.Lines.{lines}
use Rattle.suite_words.specs.declared.suite.fault.SuiteFault.{SuiteFault}
use Rattle.suite_words.specs.declared.suite.fault.SuiteFault.TheVariants.{TooLarge}
use Rattle.suite_text.specs.declared.suite.Suite.{Suite}
use Rattle.unique_id.specs.Answers.{◌>>=◌}
use Rattle.suite_words.specs.Limits.{node_limit, byte_limit}
use Rattle.suite_words.specs.Reading.Lines.{says_nothing, first_word, after_word, level_of}
use Rattle.suite_words.specs.Reading.After.{is_after}
use Rattle.suite_text.specs.Reading.After.{with_after_line}
use Rattle.suite_words.specs.Reading.Words.{Declaration, declared_as}
use Rattle.config_params.specs.Parameters.{Parameters}
use Rattle.suite_words.specs.Reading.Properties.{is_property, with_property}
use Rattle.suite_text.specs.Reading.Parts.{SuiteParts, LinesRead, no_lines, parts_of}
use Rattle.suite_text.specs.Reading.Nodes.{word_on, refusal_on, grown, unless_refused}

-- with the node that is declared on a level
abbrev pub with_declared : ℕ → LinesRead → ℕ → Declaration → Result LinesRead SuiteFault
with_declared number read level d = unless_refused number (refusal_on read level d) (grown read level d)

-- with the node that a keyword declares on its level, with what follows it on its line
abbrev pub with_node_words : ℕ → LinesRead → ℕ → List ℕ → List ℕ → Result LinesRead SuiteFault
with_node_words number read level first rest = declared_as number (word_on read level) first rest >>= (λ d. with_declared number read level d)

-- with the node that a line declares on its level
abbrev pub with_node_line : ℕ → LinesRead → ℕ → List ℕ → Result LinesRead SuiteFault
with_node_line number read level line = with_node_words number read level (first_word line) (after_word line)

-- with what a line declares on its level: an after-body, or a node
abbrev pub with_declaration : ℕ → LinesRead → ℕ → List ℕ → Result LinesRead SuiteFault
with_declaration number read level line = if is_after line then with_after_line number read level (after_word line) else with_node_line number read level line

-- with other properties
abbrev pub with_properties : LinesRead → Parameters → LinesRead
with_properties read properties = record { limit = read.limit; tree = read.tree; path = read.path; scripts = read.scripts; afters = read.afters; properties = properties }

-- whether a line is a property's: it stands before the first engine
abbrev pub is_property_in : LinesRead → List ℕ → Bool
is_property_in read line = length read.path == 0 && is_property line

-- with what a property's line says
abbrev pub with_pair : ℕ → LinesRead → List ℕ → Result LinesRead SuiteFault
with_pair number read line = with_property number read.properties line >>= (λ properties. Ok (with_properties read properties))

-- with what a line that says something declares on its level
abbrev pub with_words_on : ℕ → LinesRead → ℕ → List ℕ → Result LinesRead SuiteFault
with_words_on number read level line = if is_property_in read line then with_pair number read line else with_declaration number read level line

-- with what a line that says something declares
abbrev pub with_words : ℕ → LinesRead → List ℕ → Result LinesRead SuiteFault
with_words number read line = level_of number (length read.path) line >>= (λ level. with_words_on number read level line)

-- with one more line, of this number
abbrev pub with_line : ℕ → LinesRead → List ℕ → Result LinesRead SuiteFault
with_line number read line = if says_nothing line then Ok read else with_words number read line

-- with all lines, the first of which has this number
abbrev pub suite_from : ℕ → LinesRead → List (List ℕ) → Result LinesRead SuiteFault
suite_from number read [] = Ok read
suite_from number read (line ∷ more) = with_line number read line >>= (λ next. suite_from (number + 1) next more)

-- the suite of all lines of a text, where there may be so many nodes besides the plan
abbrev pub suite_of_lines : ℕ → List (List ℕ) → Result SuiteParts SuiteFault
suite_of_lines limit all = suite_from 1 (no_lines limit) all >>= (λ read. Ok (parts_of read))

-- the suite of a text, where so many nodes were asked for
abbrev pub suite_of : Option ℕ → List ℕ → Result SuiteParts SuiteFault
suite_of most text = if nat_lt (byte_limit most) (length text) then Err TooLarge else suite_of_lines (node_limit most) (lines text)

-- a suite, without where it lies in memory
abbrev pub suite_parts : Suite → SuiteParts
suite_parts suite = record { tree = suite.tree; scripts = suite.scripts.items; properties = suite.properties }

-- What of a line is judged before memory is taken for it, and where memory may run out.
use Rattle.std.specs.Prelude.{◌≡◌, ◌⊎◌, ℕ, ◌+◌, false, List, [], ◌∷◌, length, if◌then◌else◌, Ok}
use Rattle.unique_id.specs.Answers.{◌>>=◌}
use Rattle.suite_words.specs.Reading.After.{is_after, after_said}
use Rattle.suite_text.specs.Reading.After.{class_of}
use Rattle.suite_words.specs.Reading.Lines.{says_nothing, first_word, after_word, level_of}
use Rattle.suite_text.specs.Reading.Nodes.{word_on}
use Rattle.suite_text.specs.Reading.Parts.{LinesRead, above}
use Rattle.suite_text.specs.Suites.{is_property_in, with_line}
use Rattle.suite_words.specs.Reading.Judged.{Judged, judged_property, judged_node}

-- of an after-body's line all: its class, then its verdict
abbrev pub judged_after : ℕ → LinesRead → ℕ → List ℕ → Judged
judged_after number read level rest = class_of number read.tree (above read.path level) >>= (λ n. after_said number rest >>= (λ said. Ok tt))

abbrev pub judged_declaration : ℕ → LinesRead → ℕ → List ℕ → Judged
judged_declaration number read level line =
    if is_after line then judged_after number read level (after_word line) else judged_node number (word_on read level) (first_word line) (after_word line)

abbrev pub judged_on : ℕ → LinesRead → ℕ → List ℕ → Judged
judged_on number read level line = if is_property_in read line then judged_property number line else judged_declaration number read level line

-- of each line its indentation first
abbrev pub judged_words : ℕ → LinesRead → List ℕ → Judged
judged_words number read line = level_of number (length read.path) line >>= (λ level. judged_on number read level line)

-- memory is taken for a line that says something, and in which none of this is at fault
abbrev pub TakesMemory : ℕ → LinesRead → List ℕ → Type 0
TakesMemory number read line = (says_nothing line ≡ false) × (judged_words number read line ≡ Ok tt)

-- memory may run out in these lines: at the first of them, or behind it if it is read
abbrev pub MayRunOut : ℕ → LinesRead → List (List ℕ) → Type 0
MayRunOut number read [] = Unit {0}
MayRunOut number read (line ∷ more) = TakesMemory number read line ⊎ ((next : LinesRead) × (with_line number read line ≡ Ok next) × MayRunOut (number + 1) next more)

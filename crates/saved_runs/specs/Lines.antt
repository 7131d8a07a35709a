-- The lines of a saved run, and what each tells.
use Rattle.std.specs.Prelude.{◌≡◌, ◌+◌, ◌-◌, ℕ, ◌==◌, cond, List, [], ◌∷◌, length, map, take, Bool, false, Option, Some, None, slice_get}
use Rattle.std.specs.List.{slice_split}
use Rattle.saved_runs.specs.declared.told.Told.{Told}
use Rattle.saved_runs.specs.FeedLines.{feed_line}
use Rattle.saved_runs.specs.JsonLines.{json_line}

abbrev pub is_line_feed : ℕ → Bool
is_line_feed b = b == 10

-- what stands between line feeds; what follows the last one is the last of it
abbrev pub pieces_of : List ℕ → List (List ℕ)
pieces_of text = slice_split is_line_feed text

-- the lines that a line feed ends, so a last one that was cut off is none
abbrev pub whole_lines : List ℕ → List (List ℕ)
whole_lines text = take (length (pieces_of text) - 1) (pieces_of text)

-- whether a line is an object of JSON, by its first character
abbrev pub is_object : List ℕ → Bool
is_object [] = false
is_object (b ∷ rest) = b == 123

-- what a line tells, if it is one of a feed or of the JSON of a run
abbrev pub line_told : List ℕ → Option Told
line_told line = cond (is_object line) (json_line line) (feed_line line)

-- these lines tell just this, each its own
abbrev pub Tell : List (List ℕ) → List Told → Type 0
Tell lines told = map line_told lines ≡ map Some told

-- the line of this number, from 1, is the first of these that is of neither form
pub record IsFirstBad (number : ℕ) (lines : List (List ℕ)) : Type 0 where
  pub place : ℕ
  pub number_is : number ≡ place + 1
  pub bad : slice_get (map line_told lines) place ≡ Some None
  pub before : (told : List Told) × Tell (take place lines) told

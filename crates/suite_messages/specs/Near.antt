-- Which known word is nearest to one that is not known.
use Rattle.std.specs.Prelude.{ℕ, ◌≤◌, ◌<◌, ◌/◌, max, List, length, Option, Some, None, nat_eq}
use Rattle.std.specs.List.{All, Contains}
use Rattle.std.specs.Str.{chars, str_to_ascii_lowercase}
use Rattle.strsim.specs.Edits.{levenshtein_row}

-- how many edits lead from one list of characters to another
abbrev pub edits : List ℕ → List ℕ → ℕ
edits from to = levenshtein_row nat_eq from to (length to)

-- how many lead from one text to another, without regard to the case of ASCII letters
abbrev pub apart : List ℕ → List ℕ → ℕ
apart word name = edits (chars (str_to_ascii_lowercase word)) (chars (str_to_ascii_lowercase name))

-- how far apart a word and the one that is offered for it may be: two edits, or a third of the word's bytes
abbrev pub most_apart : List ℕ → ℕ
most_apart word = max (length word / 3) 2

-- what is found is one of the known words and near enough, and none of them is nearer; nothing is found where none is near enough
abbrev pub IsNearest : List (List ℕ) → List ℕ → Option (List ℕ) → Type 0
IsNearest known word None = All (λ name. most_apart word < apart word name) known
IsNearest known word (Some found) = Contains known found × (apart word found ≤ most_apart word) × All (λ name. apart word found ≤ apart word name) known

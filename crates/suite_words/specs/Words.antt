-- The tokens of a text, which stand between its spaces.
use Rattle.std.specs.Prelude.{ℕ, ◌==◌, List, length, filter, not, Bool}
use Rattle.std.specs.List.{slice_split}

-- the byte between two tokens
abbrev pub is_space : ℕ → Bool
is_space byte = byte == 32

-- what stands between the spaces of a text
abbrev pub words_in : List ℕ → List (List ℕ)
words_in text = filter (λ word. not (length word == 0)) (slice_split is_space text)

-- What a line of a saved feed tells, read from left to right: `wN plan WORD`, or `wN WORD ID`, behind which a space and how it ended may stand.
-- A warning is a line `WARNING KEY`, and a schedule a line of steps, whose tokens have a colon each, or the line that says that there is
-- none.
use Rattle.std.specs.Prelude.{ℕ, ◌+◌, ◌==◌, ◌&&◌, ◌||◌, not, cond, List, [], ◌∷◌, length, take, drop, Bool, false, codes, Option, Some, None}
use Rattle.std.specs.List.{list_any, before_first, after_first}
use Rattle.std.specs.Str.{bytes_eq}
use Rattle.suite_words.specs.Numbers.{is_number}
use Rattle.suite_words.specs.Words.{is_space}
use Rattle.saved_runs.specs.declared.told.Told.{Told}
use Rattle.saved_runs.specs.declared.told.Told.TheVariants.{Note}
use Rattle.saved_runs.specs.Telling.{plan_told, node_told}

abbrev pub is_colon : ℕ → Bool
is_colon b = b == 58

-- what stands before the first space, or all of a text without one
abbrev pub first_word : List ℕ → List ℕ
first_word text = before_first is_space text

-- what follows the first space
abbrev pub after_word : List ℕ → List ℕ
after_word text = after_first is_space text

-- whether a token is a worker's: w (119), and a number
abbrev pub is_worker : List ℕ → Bool
is_worker [] = false
is_worker (b ∷ digits) = (b == 119) && is_number digits

abbrev pub begins_with_slash : List ℕ → Bool
begins_with_slash [] = false
begins_with_slash (b ∷ rest) = b == 47

-- whether an id ends with this byte, before these: it is a ] (93), and no slash (47) follows
abbrev pub ends_id : ℕ → List ℕ → Bool
ends_id b rest = (b == 93) && not (begins_with_slash rest)

-- how many bytes an id at the front of a text takes: up to the first that ends it, or all of them
abbrev pub id_len : List ℕ → ℕ
id_len [] = 0
id_len (b ∷ rest) = cond (ends_id b rest) 1 (1 + id_len rest)

-- how it ended, where only a space may stand between the id and that
abbrev pub node_ended : List ℕ → List ℕ → List ℕ → Option Told
node_ended word id behind = cond (length (first_word behind) == 0) (node_told word id (first_word (after_word behind))) None

-- what is told of a node behind the name of what happened
abbrev pub node_line : List ℕ → List ℕ → Option Told
node_line word rest = node_ended word (take (id_len rest) rest) (drop (id_len rest) rest)

-- what a line tells behind its worker's token
abbrev pub behind_worker : List ℕ → Option Told
behind_worker rest = cond (bytes_eq (first_word rest) (codes "plan")) (plan_told (after_word rest)) (node_line (first_word rest) (after_word rest))

-- whether a line is a warning or a schedule
abbrev pub is_note : List ℕ → Bool
is_note line = bytes_eq (first_word line) (codes "WARNING") || (bytes_eq line (codes "no schedule was found") || list_any is_colon (first_word line))

-- a warning or a schedule
abbrev pub note_line : List ℕ → Option Told
note_line line = cond (is_note line) (Some Note) None

-- what a line of a feed tells, if it is one
abbrev pub feed_line : List ℕ → Option Told
feed_line line = cond (is_worker (first_word line)) (behind_worker (after_word line)) (note_line line)

-- The arguments that a saved run stands for.
use Rattle.std.specs.Prelude.{ℕ, cond, List, [], ◌∷◌, ◌++◌, map, codes}
use Rattle.unique_id.specs.Spelling.{spelling}
use Rattle.unique_id.specs.declared.unique_id.Segment.{Segment}
use Rattle.saved_runs.specs.RunAgain.{is_whole, failed_ids, done_ids}
use Rattle.saved_runs.specs.declared.told.Told.{Told}

-- the argument of an option with its value
abbrev pub option_word : List ℕ → List ℕ → List ℕ
option_word name value = codes "--" ++ (name ++ (codes "=" ++ value))

-- the arguments of an option that is given with each of these ids
abbrev pub words_with : List ℕ → List (List Segment) → List (List ℕ)
words_with name ids = map (λ id. option_word name (spelling id)) ids

-- just these are run again; where there is none, nothing is, since each name is left out
abbrev pub words_only : List (List Segment) → List (List ℕ)
words_only [] = option_word (codes "exclude-name") (codes "*") ∷ []
words_only (id ∷ more) = words_with (codes "rerun") (id ∷ more)

-- what failed is run again; after a run that was cut off all but what is done
abbrev pub words_of : List Told → List (List ℕ)
words_of told = cond (is_whole told) (words_only (failed_ids told)) (words_with (codes "exclude-unique-id") (done_ids told))

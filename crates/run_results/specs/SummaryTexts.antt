-- The text of a summary.
use Rattle.std.specs.Prelude.{ℕ, ◌-◌, List, [], ◌∷◌, ◌++◌, length, map, replicate, codes}
use Rattle.std.specs.Fmt.{decimal}

-- a text at the right end of so many places
abbrev pub right_in : ℕ → List ℕ → List ℕ
right_in places text = replicate (places - length text) 32 ++ text

-- a text at the left end of so many places
abbrev pub left_in : ℕ → List ℕ → List ℕ
left_in places text = text ++ replicate (places - length text) 32

-- a count and what fills the places behind it, in brackets
abbrev pub bracketed : ℕ → List ℕ → List ℕ
bracketed count rest = codes "[" ++ (right_in 10 (decimal count) ++ (codes " " ++ (rest ++ codes " ]\n")))

-- a count and what it counts
abbrev pub count_line : ℕ → List ℕ → List ℕ
count_line count phrase = bracketed count (left_in 21 phrase)

-- a line for each count
abbrev pub count_lines : List ℕ → List (List ℕ) → List ℕ
count_lines [] phrases = []
count_lines (count ∷ counts) [] = []
count_lines (count ∷ counts) (phrase ∷ phrases) = count_line count phrase ++ count_lines counts phrases

-- what is counted of one sort
abbrev pub phrases_of : List ℕ → List (List ℕ)
phrases_of sort =
    map (λ (part : List ℕ). sort ++ codes " " ++ part) (codes "found" ∷ codes "skipped" ∷ codes "started" ∷ codes "aborted" ∷ codes "successful" ∷ codes "failed" ∷ [])

-- what the twelve counts count
abbrev pub phrases : List (List ℕ)
phrases = phrases_of (codes "containers") ++ phrases_of (codes "tests")

-- the text of these twelve counts
abbrev pub summary_of : List ℕ → List ℕ
summary_of counts = codes "Test run finished\n" ++ count_lines counts phrases

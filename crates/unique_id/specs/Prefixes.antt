-- When a list begins another.
use Rattle.std.specs.Prelude.{◌≡◌, List, ◌++◌}

-- some further elements, or none, make the one list the other
abbrev pub IsPrefix : {X : Type 0} → List X → List X → Type 0
IsPrefix {X} xs ys = (rest : List X) × (xs ++ rest ≡ ys)

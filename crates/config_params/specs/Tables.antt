-- Tables of keys and values, each key once.
use Rattle.std.specs.Prelude.{ℕ, List, [], ◌∷◌, fold, reverse, if◌then◌else◌, Option}
use Rattle.std.specs.Map.{lookup}
use Rattle.std.specs.Str.{bytes_eq}
use Rattle.config_params.specs.Pairs.{Pair}

-- a table with one more pair: a key that is there takes the new value, another comes last
abbrev pub with_pair : List Pair → Pair → List Pair
with_pair [] pair = pair ∷ []
with_pair (entry ∷ more) pair = if bytes_eq pair.0 entry.0 then (entry.0, pair.1) ∷ more else entry ∷ with_pair more pair

-- the table of pairs
abbrev pub table_of : List Pair → List Pair
table_of pairs = fold with_pair [] pairs

-- the value of the first pair with this key
abbrev pub value_in : List Pair → List ℕ → Option (List ℕ)
value_in pairs key = lookup (λ other. bytes_eq key other) pairs

-- the value of the last pair with this key
abbrev pub last_value : List Pair → List ℕ → Option (List ℕ)
last_value pairs key = value_in (reverse pairs) key

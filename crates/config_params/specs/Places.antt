-- Where the pair of a key is in a table, which only proofs need.
use Rattle.std.specs.Prelude.{ℕ, zero, suc, List, [], ◌∷◌, map, Option, String, string_bytes}
use Rattle.std.specs.Global.{Global}
use Rattle.std.specs.HashMap.{HashMap}
use Rattle.resource_locks.specs.NamePlaces as names
use Rattle.config_params.specs.Pairs.{Pair}

-- the bytes of a key and a value
abbrev pub bytes_of : String Global × String Global → Pair
bytes_of pair = (string_bytes pair.0, string_bytes pair.1)

-- the place of the pair with this key, from 0
abbrev pub place_in : List Pair → List ℕ → Option ℕ
place_in pairs key = names.place_in (map (λ pair. pair.0) pairs) key

-- the places are those of the pairs
abbrev pub HasPlaces : {S : Type 0} → List Pair → HashMap (String Global) ℕ S → Type 0
HasPlaces pairs places = names.HasPlaces (map (λ pair. pair.0) pairs) places

-- another value at a place
abbrev pub with_value_at : List Pair → ℕ → List ℕ → List Pair
with_value_at [] place value = []
with_value_at (pair ∷ pairs) zero value = (pair.0, value) ∷ pairs
with_value_at (pair ∷ pairs) (suc place) value = pair ∷ with_value_at pairs place value

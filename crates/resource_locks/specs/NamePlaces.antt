-- Where a name is among others, which only proofs need.
use Rattle.std.specs.Prelude.{◌≡◌, ℕ, suc, List, [], ◌∷◌, cond, Option, None, Some, String}
use Rattle.std.specs.Global.{Global}
use Rattle.std.specs.HashMap.{HashMap, get_by_text}
use Rattle.std.specs.Option.{option_map}
use Rattle.std.specs.Str.{bytes_eq}

-- the place of the first that is this name, from 0
abbrev pub place_in : List (List ℕ) → List ℕ → Option ℕ
place_in [] name = None
place_in (other ∷ more) name = cond (bytes_eq name other) (Some 0) (option_map suc (place_in more name))

-- the places are those of the names
abbrev pub HasPlaces : {S : Type 0} → List (List ℕ) → HashMap (String Global) ℕ S → Type 0
HasPlaces names places = (name : List ℕ) → get_by_text places name ≡ place_in names name

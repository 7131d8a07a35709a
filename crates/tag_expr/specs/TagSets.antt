-- Sets of tags.
use Rattle.std.specs.Prelude.{ℕ, ◌++◌, Bool, List, [], ◌∷◌, if◌then◌else◌, Option, Some, None}
use Rattle.std.specs.Box.{box_value}
use Rattle.std.specs.declared.alloc.Global.{Global}
use Rattle.std.specs.declared.boxed.Box.{Box}
use Rattle.std.specs.List.{list_any}
use Rattle.std.specs.Str.{bytes_eq}

-- whether the set has the tag
abbrev pub has_tag : List (List ℕ) → List ℕ → Bool
has_tag tags tag = list_any (λ other. bytes_eq other tag) tags

-- the set with the tag, which comes last where it is new
abbrev pub with_tag : List (List ℕ) → List ℕ → List (List ℕ)
with_tag tags tag = if has_tag tags tag then tags else tags ++ tag ∷ []

-- the tags of a table; of none there are none
abbrev pub tags_in : Option (Box (List (List ℕ)) Global) → List (List ℕ)
tags_in None = []
tags_in (Some table) = box_value table

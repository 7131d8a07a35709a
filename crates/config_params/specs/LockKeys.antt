-- The keys of the configuration that say how many nodes may hold a lock at once.
use Rattle.std.specs.Prelude.{ℕ, ◌-◌, nat_eq, cond, List, [], ◌∷◌, ◌++◌, length, take, drop, codes, if◌then◌else◌, Option, None, Some, is_some}
use Rattle.std.specs.List.{starts_with, ends_with}
use Rattle.config_params.specs.Pairs.{Pair}
use Rattle.config_params.specs.Parameters.{Parameters}

-- the key of this lock
abbrev pub holders_key : List ℕ → List ℕ
holders_key lock = codes "nelborugy.lock." ++ (lock ++ codes ".holders")

-- what is left of a text without the end of such a key, if that ends it
abbrev pub lock_before_end : List ℕ → Option (List ℕ)
lock_before_end rest = if ends_with nat_eq rest (codes ".holders") then Some (take (length rest - 8) rest) else None

-- the lock that a key is of, if it is such a key
abbrev pub lock_limited : List ℕ → Option (List ℕ)
lock_limited key = if starts_with nat_eq key (codes "nelborugy.lock.") then lock_before_end (drop 15 key) else None

-- those of the keys of a table that are such
abbrev pub limiting : List Pair → List (List ℕ)
limiting [] = []
limiting (pair ∷ pairs) = cond (is_some (lock_limited pair.0)) (pair.0 ∷ limiting pairs) (limiting pairs)

-- those of parameters, first those of the request, then of the system and of the file
abbrev pub limiting_keys : Parameters → List (List ℕ)
limiting_keys params = limiting params.request ++ (limiting params.system ++ limiting params.file)

-- The keys of a plan, in the order of their numbers: the global one, and then those that nodes declare.
use Rattle.std.specs.Prelude.{ℕ, zero, suc, if◌then◌else◌, List, [], ◌∷◌, ◌++◌}
use Rattle.std.specs.List.{list_any}
use Rattle.std.specs.Str.{bytes_eq}
use Rattle.descriptor.specs.Nodes.{size}
use Rattle.descriptor.specs.declared.lock.Lock.{Lock}
use Rattle.resource_locks.specs.Declarations.{Declared, global}

-- keys with one more, which comes last; one that is there changes nothing
abbrev pub with_key : List (List ℕ) → List ℕ → List (List ℕ)
with_key keys key = if list_any (bytes_eq key) keys then keys else keys ++ key ∷ []

-- keys with those of a list of locks
abbrev pub with_keys : List (List ℕ) → List Lock → List (List ℕ)
with_keys keys [] = keys
with_keys keys (lock ∷ more) = with_keys (with_key keys lock.key) more

-- the global key and those that nodes below number n declare, in the order in which they are declared first
abbrev pub keys_upto : Declared → ℕ → List (List ℕ)
keys_upto d zero = global ∷ []
keys_upto d (suc n) = with_keys (keys_upto d n) (d.locks n)

-- the keys of nodes that declare this
abbrev pub keys_of : Declared → List (List ℕ)
keys_of d = keys_upto d (size d.tree)

-- How long the texts of a node may be, and how many locks it may declare.
use Rattle.std.specs.Prelude.{ℕ, ◌||◌, nat_lt, Bool, false, List, length, Option, Some, None}
use Rattle.std.specs.List.{list_any}
use Rattle.descriptor.specs.declared.lock.Lock.{Lock}
use Rattle.descriptor.specs.declared.node.Node.{Node}

-- a text has more than 1,024 bytes
abbrev pub is_long : List ℕ → Bool
is_long text = nat_lt 1024 (length text)

-- a reason has more than 1,024 bytes
abbrev pub is_long_reason : Option (List ℕ) → Bool
is_long_reason None = false
is_long_reason (Some reason) = is_long reason

-- a key of one of the locks has more than 1,024 bytes
abbrev pub has_long_key : List Lock → Bool
has_long_key locks = list_any (λ lock. is_long lock.key) locks

-- the name, the reason or a key has more than 1,024 bytes, or there are more than 16 locks
abbrev pub is_over_limit : Node → Bool
is_over_limit node = is_long node.name || is_long_reason node.disabled || nat_lt 16 (length node.locks) || has_long_key node.locks

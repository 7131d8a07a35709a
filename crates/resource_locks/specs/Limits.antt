-- What it means that a key has a limit: how many nodes may hold it at once, and what follows for execution modes.
use Rattle.std.specs.Prelude.{◌≡◌, ℕ, ◌<◌, nat_lt, ◌&&◌, ◌||◌, ◌==◌, Bool, false, cond, List, [], ◌∷◌, map, slice_index_or}
use Rattle.std.specs.List.{list_any}
use Rattle.std.specs.Str.{bytes_eq}
use Rattle.descriptor.specs.Nodes.{Nodes, Below, size, parent_of}
use Rattle.descriptor.specs.declared.lock_mode.LockMode.{LockMode}
use Rattle.descriptor.specs.declared.mode.Mode.{Mode}
use Rattle.descriptor.specs.declared.mode.Mode.TheVariants.{SameThread}
use Rattle.resource_locks.specs.declared.limits.KeyLimit.{KeyLimit}
use Rattle.resource_locks.specs.Declarations.{global}
use Rattle.resource_locks.specs.Held.{carried, table}
use Rattle.resource_locks.specs.Plans.{PlanParts, mode_of, held_of, numbers_of, limit_for}
use Rattle.resource_locks.specs.Wants.{HasLock}

-- the limit that is given for a key: what the first entry of the key says, and none for a key without an entry
abbrev pub first_limit : List KeyLimit → List ℕ → ℕ
first_limit [] key = 0
first_limit (limit ∷ given) key = cond (bytes_eq key limit.key) limit.most (first_limit given key)

-- and none for the global key
abbrev pub limit_given : List KeyLimit → List ℕ → ℕ
limit_given given key = cond (bytes_eq global key) 0 (first_limit given key)

-- the numbers of the keys that node n holds
abbrev pub numbers_at : PlanParts → ℕ → List ℕ
numbers_at p n = slice_index_or (map (numbers_of p.keys) p.held) n []

-- whether a key with one of these numbers is limited
abbrev pub any_limited : List ℕ → List ℕ → Bool
any_limited limits numbers = list_any (λ number. nat_lt 0 (slice_index_or limits number 0)) numbers

-- whether a node at or above n passes a test, and whether one above n does
abbrev pub marked_step : (ℕ → Bool) → ℕ → Bool → Bool
marked_step q n above = above || q n

abbrev pub is_below_marked : Nodes → (ℕ → Bool) → ℕ → Bool
is_below_marked t q n = nat_lt 0 n && carried t (marked_step q) false (parent_of t n)

-- the mode of n: below a node that passes the thread of its parent, else the mode that it was given
abbrev pub mode_below : Nodes → (ℕ → Bool) → (ℕ → Mode) → ℕ → Mode
mode_below t q given n = cond (is_below_marked t q n) SameThread (given n)

-- the modes that were given, but for nodes below one that holds a limited key
abbrev pub modes_with : PlanParts → List ℕ → (ℕ → Mode) → ℕ → Mode
modes_with p limits = mode_below p.tree (λ n. any_limited limits (numbers_at p n))

-- the plan with these limits, and with limits as they are given by keys
abbrev pub limited_by : PlanParts → List ℕ → PlanParts
limited_by p limits = record p { limits = limits; modes = table (modes_with p limits (mode_of p)) (size p.tree) }

abbrev pub with_limits : PlanParts → List KeyLimit → PlanParts
with_limits p given = limited_by p (map (limit_given given) p.keys)

-- What limits make of a plan's modes: below a node that holds a limited key all run on one thread, else each node has the mode
-- that it had.
pub record IsLimited (p q : PlanParts) : Type 0 where
  pub forced : (a n : ℕ) (key : List ℕ) (mode : LockMode) → HasLock (held_of q a) key mode → 0 < limit_for q key → Below q.tree a n → mode_of q n ≡ SameThread
  pub free : (n : ℕ) → ((a : ℕ) (key : List ℕ) (mode : LockMode) → HasLock (held_of q a) key mode → 0 < limit_for q key → Below q.tree a n → ⊥) → mode_of q n ≡ mode_of p n

-- whether one of these numbers of keys, of a limited one, is among those
abbrev pub share_numbers : List ℕ → List ℕ → List ℕ → Bool
share_numbers limits one other = list_any (λ number. nat_lt 0 (slice_index_or limits number 0) && list_any (λ k. k == number) other) one

-- two nodes hold a key that is limited
pub record ShareLimited (p : PlanParts) (m n : ℕ) : Type 0 where
  pub key : List ℕ
  pub limited : 0 < limit_for p key
  pub mode : LockMode
  pub here : HasLock (held_of p m) key mode
  pub other_mode : LockMode
  pub there : HasLock (held_of p n) key other_mode

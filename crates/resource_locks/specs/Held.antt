-- The walk down that hoists: which locks each node holds, and its mode, from the root down.
use Rattle.std.specs.Prelude.{ℕ, zero, suc, nat_lt, ◌==◌, ◌&&◌, ◌||◌, Bool, false, cond, List, [], ◌∷◌, ◌++◌, Option, Some, None, length, slice_index_or}
use Rattle.descriptor.specs.Nodes.{Nodes, size, parent_of, is_high}
use Rattle.descriptor.specs.declared.lock.Lock.{Lock}
use Rattle.descriptor.specs.declared.lock_mode.LockMode.{LockMode}
use Rattle.descriptor.specs.declared.lock_mode.LockMode.TheVariants.{Read, ReadWrite}
use Rattle.descriptor.specs.declared.mode.Mode.{Mode}
use Rattle.descriptor.specs.declared.mode.Mode.TheVariants.{SameThread}
use Rattle.resource_locks.specs.Wants.{is_write, mode_for, writes}
use Rattle.resource_locks.specs.LockSets.{join}
use Rattle.resource_locks.specs.Declarations.{Declared, declared_of, global}
use Rattle.resource_locks.specs.Keys.{keys_of}
use Rattle.resource_locks.specs.Plans.{PlanParts}

-- The walk down: what each node has, by its number and by what its parent has. Node 0 begins with `start`.
abbrev pub extend : {A : Type 0} → Nodes → (ℕ → A → A) → A → ℕ → List A → List A
extend t step start n got = got ++ step n (slice_index_or got (parent_of t n) start) ∷ []

abbrev pub walk : {A : Type 0} → Nodes → (ℕ → A → A) → A → ℕ → List A
walk t step start zero = []
walk t step start (suc n) = extend t step start n (walk t step start n)

abbrev pub carried : {A : Type 0} → Nodes → (ℕ → A → A) → A → ℕ → A
carried t step start n = slice_index_or (walk t step start (size t)) n start

-- a number below n passes
abbrev pub any_below : (ℕ → Bool) → ℕ → Bool
any_below q zero = false
any_below q (suc n) = q n || any_below q n

-- a list of f's values below n
abbrev pub table : {A : Type 0} → (ℕ → A) → ℕ → List A
table f zero = []
table f (suc n) = table f n ++ f n ∷ []

-- The child of an engine that n is at or below; 0 for the plan and for engines.
abbrev pub top_step : Nodes → ℕ → ℕ → ℕ
top_step t n above = cond (is_high t n) 0 (cond (parent_of t (parent_of t n) == 0) n above)

abbrev pub top_of : Nodes → ℕ → ℕ
top_of t n = carried t (top_step t) 0 n

-- a key is wanted in READ_WRITE
abbrev pub wants_write : Option LockMode → Bool
wants_write None = false
wants_write (Some m) = is_write m

-- node n is isolated, or declares the global lock in READ_WRITE
abbrev pub isolates : Declared → ℕ → Bool
isolates d n = d.isolated n || wants_write (mode_for global (d.locks n))

-- such a node is at or below the child c of an engine
abbrev pub is_whole : Declared → ℕ → Bool
is_whole d c = any_below (λ m. (top_of d.tree m == c) && isolates d m) (size d.tree)

abbrev pub declares : Declared → ℕ → Bool
declares d n = nat_lt 0 (length (d.locks n))

-- The node that holds what n declares: the child of an engine, where a node at or below it is isolated; else the first
-- one from the root to n that declares; 0 where there is none.
abbrev pub holder_step : Declared → ℕ → ℕ → ℕ
holder_step d n above =
    cond (top_of d.tree n == 0) 0 (
    cond (is_whole d (top_of d.tree n)) (top_of d.tree n) (
    cond (nat_lt 0 above) above (
    cond (declares d n) n 0)))

abbrev pub holder_of : Declared → ℕ → ℕ
holder_of d n = carried d.tree (holder_step d) 0 n

-- whether n is the child of an engine
abbrev pub is_top : Nodes → ℕ → Bool
is_top t n = nat_lt 0 n && (top_of t n == n)

-- the global lock, of the child of an engine
abbrev pub own : Declared → ℕ → List Lock
own d n = cond (is_top d.tree n) (record { key = global; mode = cond (is_whole d n) ReadWrite Read } ∷ []) []

-- what n holds for itself and for the nodes below number m
abbrev pub gathered : Declared → ℕ → ℕ → List Lock
gathered d n zero = own d n
gathered d n (suc m) = cond (nat_lt 0 n && (holder_of d m == n)) (join (gathered d n m) (d.locks m)) (gathered d n m)

-- what n holds
abbrev pub held : Declared → ℕ → List Lock
held d n = gathered d n (size d.tree)

-- whether a node at or above n holds a key in READ_WRITE
abbrev pub writer_step : Declared → ℕ → Bool → Bool
writer_step d n above = above || writes (held d n)

abbrev pub writer_at : Declared → ℕ → Bool
writer_at d n = carried d.tree (writer_step d) false n

-- whether a node above n holds a key in READ_WRITE
abbrev pub is_forced : Declared → ℕ → Bool
is_forced d n = nat_lt 0 n && writer_at d (parent_of d.tree n)

-- the mode of n: below a node that holds a key in READ_WRITE the thread of its parent, else the mode that it was given
abbrev pub hoisted_mode : Declared → List Mode → ℕ → Mode
hoisted_mode d given n = cond (is_forced d n) SameThread (slice_index_or given n SameThread)

-- the plan of a tree whose nodes were given these modes
abbrev pub plan_by : Declared → List Mode → PlanParts
plan_by d given = record {
  tree = d.tree;
  modes = table (hoisted_mode d given) (size d.tree);
  held = table (held d) (size d.tree);
  keys = keys_of d;
  limits = [];
  fail_fast = false;
  tolerated = 0;
}

abbrev pub plan_of : Nodes → List Mode → PlanParts
plan_of t given = plan_by (declared_of t) given

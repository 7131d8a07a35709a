-- The nodes of a plan before it is run, as JSON: an object for each but the plan itself, in their order, each on a line of its own.
use Rattle.std.specs.Prelude.{ℕ, ◌==◌, ◌-◌, ◌<◌, cond, List, [], ◌∷◌, ◌++◌, codes, Option, Some, None}
use Rattle.std.specs.List.{AllByRecursion, flat_map, range_with_len}
use Rattle.descriptor.specs.Nodes.{kind_of, parent_of, reason_of, size}
use Rattle.descriptor.specs.declared.lock.Lock.{Lock}
use Rattle.descriptor.specs.declared.lock_mode.LockMode.{LockMode}
use Rattle.descriptor.specs.declared.lock_mode.LockMode.TheVariants.{Read, ReadWrite}
use Rattle.descriptor.specs.declared.mode.Mode.{Mode}
use Rattle.descriptor.specs.declared.mode.Mode.TheVariants.{SameThread, Concurrent}
use Rattle.json.specs.Json.{Json, array, object, Items, no_items, item, Members, no_members, member}
use Rattle.resource_locks.specs.Plans.{PlanParts, held_of, limit_for, mode_of}
use Rattle.run_results.specs.Feed.{id_at}
use Rattle.run_results.specs.TreeTexts.{name_at}
use Rattle.reports.specs.Json.{number_member, text_member, type_word, written}

-- the name of an execution mode
abbrev pub mode_word : Mode → List ℕ
mode_word SameThread = codes "SAME_THREAD"
mode_word Concurrent = codes "CONCURRENT"

-- the name of the mode in which a key is held
abbrev pub lock_word : LockMode → List ℕ
lock_word Read = codes "READ"
lock_word ReadWrite = codes "READ_WRITE"

-- how many nodes may hold a key at once, if that is limited
abbrev pub limit_members : ℕ → Members
limit_members limit = cond (limit == 0) no_members (number_member (codes "holders") limit no_members)

-- a lock whose key so many nodes may hold at once: its key, how it is held, and the limit, if it is one
abbrev pub lock_with : ℕ → Lock → Json
lock_with limit lock = object (text_member (codes "key") lock.key (text_member (codes "mode") (lock_word lock.mode) (limit_members limit)))

-- a lock that a node of the plan holds, with the limit that the plan has for its key
abbrev pub lock_json : PlanParts → Lock → Json
lock_json p lock = lock_with (limit_for p lock.key) lock

-- such locks, in their order
abbrev pub lock_items : PlanParts → List Lock → Items
lock_items p [] = no_items
lock_items p (lock ∷ more) = item (lock_json p lock) (lock_items p more)

-- why a node is disabled, if it is
abbrev pub reason_members : Option (List ℕ) → Members
reason_members None = no_members
reason_members (Some reason) = text_member (codes "disabled") reason no_members

-- how node n would be run: its mode, which locks it holds meanwhile, and why it is disabled
abbrev pub way_members : PlanParts → ℕ → Members
way_members p n =
    text_member (codes "mode") (mode_word (mode_of p n))
    (member (codes "held") (array (lock_items p (held_of p n)))
    (reason_members (reason_of p.tree n)))

-- what stands behind its type: its id and its parent's, which is empty of an engine, its name, and how it would be run
abbrev pub plan_members : PlanParts → ℕ → Members
plan_members p n =
    text_member (codes "id") (id_at p n)
    (text_member (codes "parent") (id_at p (parent_of p.tree n))
    (text_member (codes "name") (name_at p.tree n)
    (way_members p n)))

-- the object of node n
abbrev pub node_json : PlanParts → ℕ → Json
node_json p n = object (text_member (codes "type") (type_word (kind_of p.tree n)) (plan_members p n))

-- its line; the plan itself has none
abbrev pub node_line : PlanParts → ℕ → List ℕ
node_line p n = cond (n == 0) [] (written (node_json p n) ++ codes "\n")

-- the whole text: the lines of all nodes, in the plan's order
abbrev pub plan_lines : PlanParts → List ℕ
plan_lines p = flat_map (node_line p) (range_with_len 0 (size p.tree))

-- the nodes that have a line
abbrev pub nodes_told : PlanParts → List ℕ
nodes_told p = range_with_len 1 (size p.tree - 1)

-- the limit of the key of each of these locks is a byte, for the clauses of private functions
abbrev pub HaveByteLimits : PlanParts → List Lock → Type 0
HaveByteLimits p locks = AllByRecursion (λ lock. limit_for p lock.key < 256) locks

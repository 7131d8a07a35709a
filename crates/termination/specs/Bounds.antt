-- How many steps a plan has at most, said by its nodes, its spares, the keys that they hold, and the number of workers.
use Rattle.std.specs.Prelude.{ℕ, ◌+◌, ◌*◌, List, [], ◌∷◌, length, max, sum_by}
use Rattle.descriptor.specs.declared.lock.Lock.{Lock}
use Rattle.descriptor.specs.Nodes.{size, is_spare_at, bit, count_below}
use Rattle.resource_locks.specs.Plans.{PlanParts}

-- how many keys the nodes hold, each counted at each node that holds it
abbrev pub keys_held : PlanParts → ℕ
keys_held p = sum_by length p.held

-- the most keys that one node holds
abbrev pub most_among : List (List Lock) → ℕ
most_among [] = 0
most_among (keys ∷ rest) = max (length keys) (most_among rest)

abbrev pub most_keys : PlanParts → ℕ
most_keys p = most_among p.held

-- one, if the plan fails fast
abbrev pub if_fast : PlanParts → ℕ
if_fast p = bit p.fail_fast

abbrev pub spares : PlanParts → ℕ
spares p = count_below (is_spare_at p.tree) (size p.tree)

-- What the nodes take at most. Twelve steps each: it is offered, claimed, its start is drawn and shown, its guard is given up, its finish is drawn
-- and shown, it is settled, its next sibling is looked for, it is counted off, and both events are given. Two more, if the plan fails fast: the
-- cancel word is noticed, and raised. Four more of a spare: it is added, and its registering is drawn, shown and given. Three for each key
-- that a node holds: it is weighed, taken and given back.
abbrev pub steps_of_nodes : PlanParts → ℕ
steps_of_nodes p = size p.tree * (12 + 2 * if_fast p) + 4 * spares p + 3 * keys_held p

-- So many workers and the dispatcher take at most this many steps, if no worker is turned back.
abbrev pub most_steps : PlanParts → ℕ → ℕ
most_steps p workers = steps_of_nodes p + workers * (most_keys p + 2)

-- And each time that one is turned back at most this many come to it: the node's keys are given back, and taken again.
abbrev pub steps_of_a_try : PlanParts → ℕ
steps_of_a_try p = 3 * most_keys p + 1

-- Of a plan that is free of conflict they take at most this many in all.
abbrev pub most_steps_apart : PlanParts → ℕ → ℕ
most_steps_apart p workers = most_steps p workers * (2 * workers + 1)

-- From whatever state a run has come to they take at most this many more, if no worker is turned back: each may be in a try.
abbrev pub most_steps_on : PlanParts → ℕ → ℕ
most_steps_on p workers = steps_of_nodes p + workers * (4 * most_keys p + 4)

-- And of a plan that is free of conflict they take at most this many more in all.
abbrev pub most_steps_apart_on : PlanParts → ℕ → ℕ
most_steps_apart_on p workers = most_steps_on p workers * (2 * workers + 1) + 2 * workers

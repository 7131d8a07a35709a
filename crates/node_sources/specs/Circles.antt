-- The circle of nodes round which a worker looks.
use Rattle.std.specs.Prelude.{ℕ, ◌+◌, ◌-◌, ◌++◌, List, take}
use Rattle.std.specs.List.{range_with_len}

-- the numbers from one to below another, and then those below a third
abbrev pub left_of_circle : (next end below : ℕ) → List ℕ
left_of_circle next end below = range_with_len next (end - next) ++ range_with_len 0 below

-- the numbers below this many, from the one behind `last` on, and then those up to `last`
abbrev pub circle_behind : (last nodes : ℕ) → List ℕ
circle_behind last nodes = range_with_len (last + 1) (nodes - (last + 1)) ++ take (last + 1) (range_with_len 0 nodes)

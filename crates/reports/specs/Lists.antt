-- The list of what would be run.
use Rattle.std.specs.Prelude.{ℕ, zero, suc, ◌&&◌, ◌||◌, not, Bool, cond, List, [], ◌++◌, codes}
use Rattle.std.specs.List.{flat_map, range_with_len}
use Rattle.descriptor.specs.Kinds.{is_test}
use Rattle.descriptor.specs.Nodes.{Nodes, size, parent_of, kind_of, is_disabled, is_spare_at, is_factory_at}
use Rattle.resource_locks.specs.Plans.{PlanParts}
use Rattle.run_results.specs.Feed.{id_at}

-- whether node n is disabled, or a node that it is below by so many steps at most
abbrev pub is_ruled_out_within : Nodes → ℕ → ℕ → Bool
is_ruled_out_within t zero n = is_disabled t n
is_ruled_out_within t (suc k) zero = is_disabled t zero
is_ruled_out_within t (suc k) (suc n) = is_disabled t (suc n) || is_ruled_out_within t k (parent_of t (suc n))

-- whether node n is disabled, or a node that it is below; as a parent has a smaller number, n steps are enough
abbrev pub is_ruled_out : Nodes → ℕ → Bool
is_ruled_out t n = is_ruled_out_within t n n

-- whether node n is a test that is no spare, or a factory, which finds its tests while it runs
abbrev pub is_unit : Nodes → ℕ → Bool
is_unit t n = (is_test (kind_of t n) && not (is_spare_at t n)) || is_factory_at t n

-- whether a list names node n: it is such a node, and neither it nor a node that it is below is disabled
abbrev pub is_listed : Nodes → ℕ → Bool
is_listed t n = is_unit t n && not (is_ruled_out t n)

-- the line of node n: its canonical id
abbrev pub list_line : PlanParts → ℕ → List ℕ
list_line plan n = cond (is_listed plan.tree n) (id_at plan n ++ codes "\n") []

-- the whole text: the lines of all nodes, in the plan's order
abbrev pub list_of : PlanParts → List ℕ
list_of plan = flat_map (list_line plan) (range_with_len 0 (size plan.tree))

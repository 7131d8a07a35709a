-- The cases of a report: what they are, and what is told of each.
use Rattle.std.specs.Prelude.{ℕ, zero, suc, ◌==◌, ◌&&◌, ◌||◌, nat_lt, not, Bool, cond, List, [], ◌∷◌, ◌++◌}
use Rattle.std.specs.List.{flat_map, list_any}
use Rattle.descriptor.specs.Kinds.{is_test}
use Rattle.descriptor.specs.Nodes.{Nodes, kind_of, parent_of, children_of, is_spare_at, is_factory_at}
use Rattle.run_results.specs.Told.{told_at}
use Rattle.run_results.specs.declared.told.NodeEvents.{NodeEvents}
use Rattle.junit_report.specs.Told.{badness, end_of, is_failure, is_pass}
use Rattle.junit_report.specs.declared.cases.Case.{Case}
use Rattle.junit_report.specs.declared.cases.Cause.{Cause}

-- what became of node n itself
abbrev pub own_cause : List NodeEvents → ℕ → Cause
own_cause told n = record { node = n; end = end_of (told_at told n) }

-- the worse of what is told of the node above and of what became of the node itself, and the node's own where neither is
abbrev pub worse_of : Cause → Cause → Cause
worse_of above own = cond (nat_lt (badness own.end) (badness above.end)) above own

-- what is told of node n, of so many steps up: the worst that became of it and of the nodes that it is below, that of the nearest where
-- several are alike
abbrev pub cause_within : Nodes → List NodeEvents → ℕ → ℕ → Cause
cause_within t told zero n = own_cause told n
cause_within t told (suc k) zero = own_cause told zero
cause_within t told (suc k) (suc n) = worse_of (cause_within t told k (parent_of t (suc n))) (own_cause told (suc n))

-- all of it: as a parent has a smaller number, n steps are enough
abbrev pub cause_of : Nodes → List NodeEvents → ℕ → Cause
cause_of t told n = cause_within t told n n

-- node n as a case
abbrev pub case_of : Nodes → List NodeEvents → ℕ → Case
case_of t told n = record { node = n; cause = cause_of t told n }

-- whether it failed itself
abbrev pub has_failed : Case → Bool
has_failed c = is_failure c.cause.end && (c.cause.node == c.node)

-- whether a node failed that it is below
abbrev pub has_error : Case → Bool
has_error c = is_failure c.cause.end && not (c.cause.node == c.node)

-- whether it neither passed nor is told of as failed
abbrev pub is_left_out : Case → Bool
is_left_out c = not (is_pass c.cause.end) && not (is_failure c.cause.end)

-- whether node n was found: it is no spare, or it was registered
abbrev pub was_found : Nodes → List NodeEvents → ℕ → Bool
was_found t told n = not (is_spare_at t n) || (told_at told n).registered

-- whether a dynamic test of node n was registered
abbrev pub has_registered : Nodes → List NodeEvents → ℕ → Bool
has_registered t told n = list_any (λ c. (told_at told c).registered) (children_of t n)

-- whether node n is a factory that did not pass and has no test that could tell so
abbrev pub is_bare_factory : Nodes → List NodeEvents → ℕ → Bool
is_bare_factory t told n = is_factory_at t n && (not (has_registered t told n) && not (is_pass (cause_of t told n).end))

-- whether node n is a case: it is a test that was found, or such a factory
abbrev pub is_case : Nodes → List NodeEvents → ℕ → Bool
is_case t told n = (is_test (kind_of t n) && was_found t told n) || is_bare_factory t told n

-- the case of node n, if it is one
abbrev pub own_case : Nodes → List NodeEvents → ℕ → List Case
own_case t told n = cond (is_case t told n) (case_of t told n ∷ []) []

-- the cases of the dynamic tests of node n, in order; none where it is no factory
abbrev pub dynamic_cases : Nodes → List NodeEvents → ℕ → List Case
dynamic_cases t told n = cond (is_factory_at t n) (flat_map (own_case t told) (children_of t n)) []

-- the cases of a child, and of its dynamic tests behind it
abbrev pub child_cases : Nodes → List NodeEvents → ℕ → List Case
child_cases t told n = own_case t told n ++ dynamic_cases t told n

-- the cases of node n: those of its children, in order; a factory has none, since its dynamic tests are cases of the node above it
abbrev pub cases_of : Nodes → List NodeEvents → ℕ → List Case
cases_of t told n = cond (is_factory_at t n) [] (flat_map (child_cases t told) (children_of t n))

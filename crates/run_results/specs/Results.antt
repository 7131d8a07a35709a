-- What contracts see of the results of a run: the plan and the events; and what is read from them besides texts and counts.
use Rattle.std.specs.Prelude.{◌≡◌, ℕ, ◌<◌, ◌&&◌, nat_lt, Bool, List, Some}
use Rattle.std.specs.List.{list_any, range_with_len}
use Rattle.descriptor.specs.Kinds.{is_test}
use Rattle.descriptor.specs.Nodes.{size, kind_of, count_below}
use Rattle.plan_events.specs.declared.event.Event.{Event}
use Rattle.plan_events.specs.Statuses.{is_failed}
use Rattle.plan_events.specs.declared.status.Status.TheVariants.{Failed}
use Rattle.resource_locks.specs.Plans.{PlanParts}
use Rattle.run_results.specs.Counts.{was_found}
use Rattle.run_results.specs.Told.{status_of, ended}

-- a plan, and the events of a run of it
pub record ResultParts : Type 0 where
  pub plan : PlanParts
  pub events : List Event

-- how many tests of a plan were found, one that may hold other nodes counted: all that are no spares, and the spares that were registered
abbrev pub tests_found : PlanParts → List Event → ℕ
tests_found p events = count_below (λ n. is_test (kind_of p.tree n) && was_found p.tree events n) (size p.tree)

-- whether node n failed, as a container or a test; node 0 is neither
abbrev pub is_failure : List Event → ℕ → Bool
is_failure events n = nat_lt 0 n && ended is_failed (status_of events n)

-- whether a container or a test failed
abbrev pub has_failed : PlanParts → List Event → Bool
has_failed p events = list_any (is_failure events) (range_with_len 0 (size p.tree))

-- a container or a test failed: there is such a node
abbrev pub HasFailed : PlanParts → List Event → Type 0
HasFailed p events = (n : ℕ) × (0 < n) × (n < size p.tree) × (status_of events n ≡ Some Failed)

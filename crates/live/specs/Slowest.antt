-- The tests that took longest, as they are told when a run is over.
use Rattle.std.specs.Prelude.{ℕ, zero, suc, ◌==◌, ◌&&◌, nat_lt, Bool, cond, List, [], ◌∷◌, ◌++◌, codes, length, take}
use Rattle.std.specs.Fmt.{decimal}
use Rattle.std.specs.List.{flat_map}
use Rattle.std.specs.Option.{is_some}
use Rattle.descriptor.specs.Nodes.{Nodes, size}
use Rattle.job_times.specs.Timings.{Took, took_of}
use Rattle.run_results.specs.Feed.{id_at}
use Rattle.run_results.specs.TreeTexts.{name_at}
use Rattle.live.specs.RunningTests.{is_plain_test}
use Rattle.live.specs.Shown.{shown}
use Rattle.reports.specs.TimeTexts.{seconds_text, time_or_none}
use Rattle.resource_locks.specs.Plans.{PlanParts}

-- whether node n is a test that holds no other node, and it is known how long it took
abbrev pub is_timed : Nodes → Took → ℕ → Bool
is_timed t took n = is_plain_test t n && is_some (took_of took n)

-- node n in its place among nodes of which the slowest stands first: before the first that took less time
abbrev pub placed : Took → ℕ → List ℕ → List ℕ
placed took n [] = n ∷ []
placed took n (m ∷ ms) = cond (nat_lt (time_or_none took m) (time_or_none took n)) (n ∷ m ∷ ms) (m ∷ placed took n ms)

-- such tests with a number below n, the slowest first, and of those that took the same time the earlier one first
abbrev pub by_time : Nodes → Took → ℕ → List ℕ
by_time t took zero = []
by_time t took (suc n) = cond (is_timed t took n) (placed took n (by_time t took n)) (by_time t took n)

-- all such tests, in this order
abbrev pub timed_tests : Nodes → Took → List ℕ
timed_tests t took = by_time t took (size t)

-- how many tests are told of, of how many
abbrev pub slowest_title : ℕ → ℕ → List ℕ
slowest_title told all = codes "Slowest (" ++ (decimal told ++ (codes " of " ++ (decimal all ++ codes "):\n")))

-- the lines of a test: how long it took, its name, and its unique id
abbrev pub slow_lines : PlanParts → Took → ℕ → List ℕ
slow_lines plan took n =
    codes "  " ++ (seconds_text (time_or_none took n) ++ (codes " s  " ++ (shown (name_at plan.tree n) ++ (codes "\n    " ++ (shown (id_at plan n) ++ codes "\n")))))

-- the lines of these tests, of so many, under a title
abbrev pub slowest_lines : PlanParts → Took → List ℕ → ℕ → List ℕ
slowest_lines plan took told all = slowest_title (length told) all ++ flat_map (slow_lines plan took) told

-- the ten slowest; nothing where of no test it is known how long it took
abbrev pub slowest_of : PlanParts → Took → List ℕ
slowest_of plan took =
    cond (length (timed_tests plan.tree took) == 0) [] (slowest_lines plan took (take 10 (timed_tests plan.tree took)) (length (timed_tests plan.tree took)))

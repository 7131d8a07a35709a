-- The tests that run, and which of them is named.
use Rattle.std.specs.Prelude.{◌≡◌, ◌⊎◌, ℕ, ◌-◌, ◌/◌, ◌<◌, ◌≤◌, ◌==◌, ◌&&◌, nat_le, nat_lt, not, Bool, true, cond, List, [], ◌∷◌, ◌++◌, All, codes, map, Option, None, Some, IfSome, option_map, string_bytes}
use Rattle.std.specs.Fmt.{decimal}
use Rattle.std.specs.List.{filter, list_any}
use Rattle.std.specs.Time.{instant_nanos}
use Rattle.descriptor.specs.Nodes.{Nodes, is_leaf_at, parent_of, size}
use Rattle.listeners.specs.Endings.{is_finish}
use Rattle.listeners.specs.Listeners.{Telling}
use Rattle.run_results.specs.Told.{is_start}
use Rattle.run_results.specs.TreeTexts.{name_at}
use Rattle.plan_events.specs.declared.event.Event.{Event}
use Rattle.plan_events.specs.declared.event.EventKind.{EventKind}
use Rattle.plan_events.specs.declared.event.EventKind.TheVariants.{Started, Finished, Skipped, Registered}
use Rattle.live.specs.Shown.{shown}
use Rattle.live.specs.declared.running.Longest.{Longest}
use Rattle.live.specs.declared.running.Running.{Running}
use Rattle.live.specs.declared.running.RunningTest.{RunningTest}

-- whether node n is a test that holds no other node
abbrev pub is_plain_test : Nodes → ℕ → Bool
is_plain_test tree n = nat_lt n (size tree) && is_leaf_at tree n

-- whether it is said that node n finished
abbrev pub finishes : ℕ → Telling → Bool
finishes n t = is_finish t.event.kind && (t.event.node == n)

-- whether it is said that such a test started
abbrev pub starts_test : Nodes → Telling → Bool
starts_test tree t = is_start t.event.kind && is_plain_test tree t.event.node

-- Of these events the tests of which one says that they started, and none behind it that they finished, in the order of their starts.
abbrev pub running_in : Nodes → List Telling → List ℕ
running_in tree [] = []
running_in tree (t ∷ ts) = cond (starts_test tree t && not (list_any (finishes t.event.node) ts)) (t.event.node ∷ []) [] ++ running_in tree ts

-- the tests that run behind one event more: one that starts is the last, and one that finishes is none
abbrev pub running_by : EventKind → Nodes → ℕ → List ℕ → List ℕ
running_by Started tree n running = running ++ cond (is_plain_test tree n) (n ∷ []) []
running_by Finished tree n running = filter (λ m. not (n == m)) running
running_by Skipped tree n running = running
running_by Registered tree n running = running

-- the nodes of these tests
abbrev pub nodes_of : List RunningTest → List ℕ
nodes_of tests = map (λ (t : RunningTest). t.node) tests

-- the name of node n and that of the node above it, which the plan has not
abbrev pub name_in : Nodes → ℕ → List ℕ
name_in tree n = name_at tree n ++ cond (parent_of tree n == 0) [] (codes " in " ++ name_at tree (parent_of tree n))

-- a test has no other name than that of its node
abbrev pub IsNamed : Nodes → RunningTest → Type 0
IsNamed tree t = IfSome t.name (λ name. string_bytes name ≡ name_in tree t.node)

-- Where all tests that run are still noted, they were before, and now these are; and still each has the name of its node, or none.
pub record Notes (tree : Nodes) (running : List ℕ) (old new : Running) : Type 0 where
  pub all : new.are_all ≡ true → old.are_all ≡ true
  pub nodes : new.are_all ≡ true → nodes_of new.tests.items ≡ running
  pub named : All (IsNamed tree) old.tests.items → All (IsNamed tree) new.tests.items

-- one event more was noted
abbrev pub Follows : Nodes → Event → (old new : Running) → Type 0
Follows tree e old new = Notes tree (running_by e.kind tree e.node (nodes_of old.tests.items)) old new

-- Of these events those tests run that were noted, in the order of their starts, where there were none at first and they are all; and each
-- has the name of its node, or none.
pub record HasFollowedTests (tree : Nodes) (first now : Running) (ts : List Telling) : Type 0 where
  pub all : now.are_all ≡ true → first.are_all ≡ true
  pub nodes : first.tests.items ≡ [] → now.are_all ≡ true → nodes_of now.tests.items ≡ running_in tree ts
  pub named : first.tests.items ≡ [] → All (IsNamed tree) now.tests.items

-- when a test started, in nanoseconds of the clock
abbrev pub began : RunningTest → ℕ
began t = instant_nanos t.since

-- a test runs longest: those before it started later, and none behind it started earlier
pub record IsLongest (tests : List RunningTest) (t : RunningTest) : Type 0 where
  pub before : List RunningTest
  pub behind : List RunningTest
  pub is : tests ≡ before ++ t ∷ behind
  pub later : All (λ u. began t < began u) before
  pub no_earlier : All (λ u. began t ≤ began u) behind

-- for how many seconds a test has been running at this time
abbrev pub seconds_at : ℕ → RunningTest → ℕ
seconds_at now t = (now - began t) / 1000000000

-- what is said at this time of a test, if all tests that run are noted and it has been running for two seconds at least: its name, if that is
-- there, and for how many seconds it has been running
abbrev pub said_of : ℕ → Bool → RunningTest → Option (List ℕ × ℕ)
said_of now all t = cond (all && nat_le 2 (seconds_at now t)) (option_map (λ name. (string_bytes name, seconds_at now t)) t.name) None

-- what is said at this time of these tests: of none nothing, and else that of the one that runs longest
abbrev pub IsSaid : Running → ℕ → Option (List ℕ × ℕ) → Type 0
IsSaid running now said =
    ((running.tests.items ≡ []) × (said ≡ None)) ⊎ ((t : RunningTest) × IsLongest running.tests.items t × (said ≡ said_of now running.are_all t))

-- what is named, as it is said
abbrev pub as_said : Option Longest → Option (List ℕ × ℕ)
as_said longest = option_map (λ (l : Longest). (l.name.now, l.seconds)) longest

-- what the line says of it behind all else
abbrev pub longest_part : Option (List ℕ × ℕ) → List ℕ
longest_part None = []
longest_part (Some said) = codes ", longest " ++ (decimal said.1 ++ (codes " s: " ++ shown said.0))

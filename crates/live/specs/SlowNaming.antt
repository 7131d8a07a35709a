-- Which tests of a run are named since they run longer than their limit, and how.
use Rattle.std.specs.Prelude.{◌≡◌, ◌⊎◌, ℕ, ◌+◌, ◌*◌, ◌/◌, ◌%◌, ◌<◌, ◌≤◌, ◌==◌, ◌&&◌, not, Bool, true, false, List, [], ◌∷◌, ◌++◌, All, codes, string_bytes}
use Rattle.std.specs.Fmt.{decimal}
use Rattle.std.specs.List.{count_by, filter, list_any}
use Rattle.descriptor.specs.Nodes.{Nodes}
use Rattle.listeners.specs.Listeners.{Telling}
use Rattle.plan_events.specs.declared.event.EventKind.{EventKind}
use Rattle.plan_events.specs.declared.event.EventKind.TheVariants.{Started, Finished, Skipped, Registered}
use Rattle.live.specs.RunningTests.{finishes, is_plain_test, name_in, starts_test}
use Rattle.live.specs.Shown.{shown}
use Rattle.live.specs.declared.slow_tests.LimitedTest.{LimitedTest}

-- microseconds as seconds with three places
abbrev pub seconds_text : ℕ → List ℕ
seconds_text time = decimal (time / 1000000) ++ (codes "." ++ (decimal (time / 100000 % 10) ++ (decimal (time / 10000 % 10) ++ decimal (time / 1000 % 10))))

-- what is said of a slow test: of which node, by which name, for how many microseconds it has been running, and how many milliseconds are its limit
pub record Slow : Type 0 where
  pub node : ℕ
  pub name : List ℕ
  pub time : ℕ
  pub limit : ℕ

-- its line
abbrev pub slow_line : Slow → List ℕ
slow_line s = codes "slow: " ++ (shown s.name ++ (codes " has been running for " ++ (seconds_text s.time ++ (codes " s (limit " ++ (decimal s.limit ++ codes " ms)\n")))))

-- a test that is noted is that of node n
pub record IsOfNode (tree : Nodes) (n : ℕ) (t : LimitedTest) : Type 0 where
  pub node : t.node ≡ n
  pub name : string_bytes t.name ≡ name_in tree n

-- the test of node n stands behind the others, or is not noted
abbrev pub MayAdd : Nodes → ℕ → (old new : List LimitedTest) → Type 0
MayAdd tree n old new = (new ≡ old) ⊎ ((t : LimitedTest) × IsOfNode tree n t × (new ≡ old ++ t ∷ []))

-- What is noted behind one event more of node n: a test that starts, if it is noted, stands behind the others, and one that finishes is noted no
-- more.
abbrev pub NotesBy : EventKind → Nodes → ℕ → (old new : List LimitedTest) → Type 0
NotesBy Started tree n old new = (new ≡ old) ⊎ ((is_plain_test tree n ≡ true) × MayAdd tree n old new)
NotesBy Finished tree n old new = new ≡ filter (λ t. not (n == t.node)) old
NotesBy Skipped tree n old new = new ≡ old
NotesBy Registered tree n old new = new ≡ old

-- this is said of a test that was noted, is slow, and is noted no more
pub record TakesOut (s : Slow) (old new : List LimitedTest) : Type 0 where
  pub test : LimitedTest
  pub before : List LimitedTest
  pub behind : List LimitedTest
  pub was : old ≡ before ++ test ∷ behind
  pub left : new ≡ before ++ behind
  pub is : s ≡ record { node = test.node; name = string_bytes test.name; time = s.time; limit = test.limit }
  pub slow : s.limit * 1000 ≤ s.time

-- what is said next: of no test, of which perhaps one is noted no more, or of one that is noted no more
abbrev pub TakesNext : (old new : List LimitedTest) → List Slow → Type 0
TakesNext old new [] = (new ≡ old) ⊎ ((s : Slow) × TakesOut s old new)
TakesNext old new (s ∷ []) = TakesOut s old new
TakesNext old new said = ⊥

-- of these events one says that the test of node n started, and none behind it that it finished
pub record IsRunningBehind (tree : Nodes) (ts : List Telling) (n : ℕ) : Type 0 where
  pub before : List Telling
  pub start : Telling
  pub since : List Telling
  pub is : ts ≡ before ++ start ∷ since
  pub starts : starts_test tree start ≡ true
  pub node : start.event.node ≡ n
  pub goes_on : list_any (finishes n) since ≡ false

-- this was said behind some of these events, of a test that was running then, by its name, and that had been running for its limit at least
pub record IsOfRunning (tree : Nodes) (ts : List Telling) (s : Slow) : Type 0 where
  pub told : List Telling
  pub later : List Telling
  pub is : ts ≡ told ++ later
  pub running : IsRunningBehind tree told s.node
  pub name : s.name ≡ name_in tree s.node
  pub slow : s.limit * 1000 ≤ s.time

-- a test that is noted runs, and has its name
pub record IsNoted (tree : Nodes) (ts : List Telling) (t : LimitedTest) : Type 0 where
  pub running : IsRunningBehind tree ts t.node
  pub name : string_bytes t.name ≡ name_in tree t.node

-- how often it is said of node n
abbrev pub times_said : ℕ → List Slow → ℕ
times_said n said = count_by (λ (s : Slow). s.node == n) said

-- how often it is noted
abbrev pub times_noted : ℕ → List LimitedTest → ℕ
times_noted n tests = count_by (λ (t : LimitedTest). t.node == n) tests

-- how often these events say that it started
abbrev pub times_started : Nodes → ℕ → List Telling → ℕ
times_started tree n ts = count_by (λ t. starts_test tree t && (t.event.node == n)) ts

-- Where no test was noted at first, each of which this was said was running then, and it was said at most as often as the test started; and the
-- tests that are noted now run.
pub record AreSlow (tree : Nodes) (first now : List LimitedTest) (ts : List Telling) (said : List Slow) : Type 0 where
  pub running : first ≡ [] → All (IsOfRunning tree ts) said
  pub once : first ≡ [] → (n : ℕ) → times_said n said + times_noted n now ≤ times_started tree n ts
  pub noted : first ≡ [] → All (IsNoted tree ts) now

-- The tests that run, one event more, and one test more.
use Rattle.std.proofs.Common.{◌≡◌, ◌∙◌, ℕ, ◌<◌, ◌≤◌, ◌==◌, ◌&&◌, ◌||◌, not, Bool, true, false, cond, List, [], ◌∷◌, ◌++◌, All, refl, sym, ap, ap₂, subst, arith, append-nil, append_assoc}
use Rattle.std.specs.List.{filter, list_any}
use Rattle.std.proofs.lemmas.List.Elements.{All-append, All-cons, All-nil, All-weaker}
use Rattle.std.proofs.lemmas.List.Folds.{list_any-append}
use Rattle.descriptor.specs.Nodes.{Nodes}
use Rattle.listeners.specs.Endings.{is_finish}
use Rattle.listeners.specs.Listeners.{Telling}
use Rattle.run_results.specs.Told.{is_start}
use Rattle.plan_events.specs.declared.event.EventKind.{EventKind}
use Rattle.plan_events.specs.declared.event.EventKind.TheVariants.{Started, Finished, Skipped, Registered}
use Rattle.live.specs.RunningTests.{Follows, HasFollowedTests, IsLongest, IsNamed, began, finishes, is_plain_test, nodes_of, running_by, running_in, starts_test}
use Rattle.live.specs.declared.running.Running.{Running}
use Rattle.live.specs.declared.running.RunningTest.{RunningTest}

-- the nodes of the tests that are of other nodes
but_by : (b : Bool) (t : RunningTest) (tests : List RunningTest) (nodes : List ℕ) → nodes_of tests ≡ nodes → nodes_of (cond (not b) (t ∷ tests) tests) ≡ cond (not b) (t.node ∷ nodes) nodes
but_by true t tests nodes is = is
but_by false t tests nodes is = ap (λ (ns : List ℕ). t.node ∷ ns) is

pub nodes_but : (n : ℕ) (tests : List RunningTest) → nodes_of (filter (λ (t : RunningTest). not (n == t.node)) tests) ≡ filter (λ m. not (n == m)) (nodes_of tests)
nodes_but n [] = refl
nodes_but n (t ∷ tests) = but_by (n == t.node) t (filter (λ (u : RunningTest). not (n == u.node)) tests) (filter (λ m. not (n == m)) (nodes_of tests)) (nodes_but n tests)

-- one node in front of others stays where no event more says that it finished
one_stays : (s a f : Bool) (m : ℕ) (keep : ℕ → Bool) (rest : List ℕ) → keep m ≡ not f → filter keep (cond (s && not a) (m ∷ []) [] ++ rest) ≡ cond (s && not (a || (f || false))) (m ∷ []) [] ++ filter keep rest
one_stays false a f m keep rest is = refl
one_stays true true f m keep rest is = refl
one_stays true false true m keep rest is = ap (λ (b : Bool). cond b (m ∷ filter keep rest) (filter keep rest)) is
one_stays true false false m keep rest is = ap (λ (b : Bool). cond b (m ∷ filter keep rest) (filter keep rest)) is

start_alone : (s : Bool) (n : ℕ) → cond (s && not false) (n ∷ []) [] ++ [] ≡ cond s (n ∷ []) []
start_alone true n = refl
start_alone false n = refl

-- behind one event more those tests run that it does not finish, and one that it starts
running_more : (tree : Nodes) (ts : List Telling) (t : Telling) → running_in tree (ts ++ t ∷ []) ≡ filter (λ m. not (finishes m t)) (running_in tree ts) ++ cond (starts_test tree t) (t.event.node ∷ []) []
running_more tree [] t = start_alone (starts_test tree t) t.event.node
running_more tree (u ∷ ts) t =
    let m = u.event.node in
    let keep : ℕ → Bool = λ k. not (finishes k t) in
    let more : List ℕ = cond (starts_test tree t) (t.event.node ∷ []) [] in
    let still : list_any (finishes m) (ts ++ t ∷ []) ≡ (list_any (finishes m) ts || (finishes m t || false)) = list_any-append (finishes m) ts (t ∷ []) in
    ap₂ (λ (b : Bool) (rest : List ℕ). cond (starts_test tree u && not b) (m ∷ []) [] ++ rest) still (running_more tree ts t)
    ∙ sym (append_assoc (cond (starts_test tree u && not (list_any (finishes m) ts || (finishes m t || false))) (m ∷ []) []) (filter keep (running_in tree ts)) more)
    ∙ sym (ap (λ (ns : List ℕ). ns ++ more) (one_stays (starts_test tree u) (list_any (finishes m) ts) (finishes m t) m keep (running_in tree ts) refl))

all_stay : (ns : List ℕ) → filter (λ m. true) ns ≡ ns
all_stay [] = refl
all_stay (n ∷ ns) = ap (λ (ms : List ℕ). n ∷ ms) (all_stay ns)

by_kind : (k : EventKind) (tree : Nodes) (n : ℕ) (running : List ℕ) → filter (λ m. not (is_finish k && (n == m))) running ++ cond (is_start k && is_plain_test tree n) (n ∷ []) [] ≡ running_by k tree n running
by_kind Started tree n running = ap (λ (ns : List ℕ). ns ++ cond (is_plain_test tree n) (n ∷ []) []) (all_stay running)
by_kind Finished tree n running = append-nil (filter (λ m. not (n == m)) running)
by_kind Skipped tree n running = append-nil (filter (λ m. true) running) ∙ all_stay running
by_kind Registered tree n running = append-nil (filter (λ m. true) running) ∙ all_stay running

running_with : (tree : Nodes) (ts : List Telling) (t : Telling) → running_in tree (ts ++ t ∷ []) ≡ running_by t.event.kind tree t.event.node (running_in tree ts)
running_with tree ts t = running_more tree ts t ∙ by_kind t.event.kind tree t.event.node (running_in tree ts)

-- of no event no test runs
pub none_running : (tree : Nodes) (first : Running) → HasFollowedTests tree first first []
none_running tree first = record {
  all = λ all. all;
  nodes = λ none all. ap nodes_of none;
  named = λ none. subst (All (IsNamed tree)) (sym none) (All-nil (IsNamed tree));
}

-- one event more was noted
pub running_on : (tree : Nodes) (first old new : Running) (ts : List Telling) (t : Telling) → HasFollowedTests tree first old ts → Follows tree t.event old new → HasFollowedTests tree first new (ts ++ t ∷ [])
running_on tree first old new ts t was now = record {
  all = λ all. was.all (now.all all);
  nodes = λ none all. now.nodes all ∙ ap (running_by t.event.kind tree t.event.node) (was.nodes none (now.all all)) ∙ sym (running_with tree ts t);
  named = λ none. now.named (was.named none);
}

-- one test alone runs longest
pub alone : (t : RunningTest) → IsLongest (t ∷ []) t
alone t = record {
  before = [];
  behind = [];
  is = refl;
  later = All-nil (λ (u : RunningTest). began t < began u);
  no_earlier = All-nil (λ (u : RunningTest). began t ≤ began u);
}

-- it does also with one more behind it that started no earlier
pub still_longest : (tests : List RunningTest) (t u : RunningTest) → IsLongest tests t → began t ≤ began u → IsLongest (tests ++ u ∷ []) t
still_longest tests t u longest late =
    let NoEarlier : RunningTest → Type 0 = λ (v : RunningTest). began t ≤ began v in
    record {
      before = longest.before;
      behind = longest.behind ++ u ∷ [];
      is = ap (λ (ts : List RunningTest). ts ++ u ∷ []) longest.is ∙ append_assoc longest.before (t ∷ longest.behind) (u ∷ []);
      later = longest.later;
      no_earlier = All-append NoEarlier longest.behind (u ∷ []) longest.no_earlier (All-cons NoEarlier u [] late (All-nil NoEarlier));
    }

-- and else that one does
pub last_longest : (tests : List RunningTest) (t u : RunningTest) → IsLongest tests t → began u < began t → IsLongest (tests ++ u ∷ []) u
last_longest tests t u longest earlier =
    let Later : RunningTest → Type 0 = λ (v : RunningTest). began u < began v in
    let before : All Later longest.before = All-weaker (λ (v : RunningTest). began t < began v) Later (λ v later. omega (arith, later, earlier)) longest.before longest.later in
    let behind : All Later longest.behind = All-weaker (λ (v : RunningTest). began t ≤ began v) Later (λ v late. omega (arith, late, earlier)) longest.behind longest.no_earlier in
    record {
      before = tests;
      behind = [];
      is = refl;
      later = subst (All Later) (sym longest.is) (All-append Later longest.before (t ∷ longest.behind) before (All-cons Later t longest.behind earlier behind));
      no_earlier = All-nil (λ (v : RunningTest). began u ≤ began v);
    }

-- What is named of the tests that run, behind one event more, and behind one line more.
use Rattle.std.proofs.Common.{◌≡◌, ◌∙◌, ◌⊎◌, inl, inr, ℕ, ◌+◌, ◌*◌, ◌≤◌, ◌==◌, ◌&&◌, ◌||◌, not, Bool, true, false, cond, List, [], ◌∷◌, ◌++◌, All, string_bytes, refl, sym, ap, ap₂, subst, arith, append-nil, append_assoc}
use Rattle.std.specs.List.{count_by, filter, list_any}
use Rattle.std.proofs.lemmas.List.Elements.{All-append, All-cons, All-filter, All-head, All-nil, All-push, All-tail, All-weaker, filter_passes}
use Rattle.std.proofs.lemmas.List.Folds.{list_any-append}
use Rattle.std.proofs.lemmas.List.Sums.{sum_by-append, sum_by-cons}
use Rattle.descriptor.specs.Nodes.{Nodes}
use Rattle.listeners.specs.Endings.{is_finish}
use Rattle.listeners.specs.Listeners.{Telling}
use Rattle.run_results.specs.Told.{is_start}
use Rattle.plan_events.specs.declared.event.EventKind.{EventKind}
use Rattle.plan_events.specs.declared.event.EventKind.TheVariants.{Started, Finished, Skipped, Registered}
use Rattle.live.specs.RunningTests.{finishes, is_plain_test, name_in, starts_test}
use Rattle.live.specs.SlowNaming.{AreSlow, IsNoted, IsOfNode, IsOfRunning, IsRunningBehind, MayAdd, NotesBy, Slow, TakesNext, TakesOut, times_noted, times_said, times_started}
use Rattle.live.specs.declared.slow_tests.LimitedTest.{LimitedTest}

-- How many of a list pass a test.
abbrev one_if : Bool → ℕ
one_if b = cond b 1 0

count_behind : {X : Type 0} (p : X → Bool) (xs ys : List X) → count_by p (xs ++ ys) ≡ count_by p xs + count_by p ys
count_behind p xs ys = sum_by-append (λ x. cond (p x) 1 0) xs ys

count_front : {X : Type 0} (p : X → Bool) (x : X) (xs : List X) → count_by p (x ∷ xs) ≡ one_if (p x) + count_by p xs
count_front p x xs = sum_by-cons (λ y. cond (p y) 1 0) x xs

fewer_by : {X : Type 0} (p : X → Bool) (x : X) (kept xs : List X) (k : Bool) → count_by p kept ≤ count_by p xs → count_by p (cond k (x ∷ kept) kept) ≤ count_by p (x ∷ xs)
fewer_by p x kept xs true le = let a = count_front p x kept in let b = count_front p x xs in omega (arith, a, b, le)
fewer_by p x kept xs false le = let b = count_front p x xs in omega (arith, b, le)

fewer : {X : Type 0} (p keep : X → Bool) (xs : List X) → count_by p (filter keep xs) ≤ count_by p xs
fewer p keep [] = omega arith
fewer p keep (x ∷ xs) = fewer_by p x (filter keep xs) xs (keep x) (fewer p keep xs)

-- What holds of all of a joined list holds of its parts.
all_left : {X : Type 0} (P : X → Type 0) (xs ys : List X) → All P (xs ++ ys) → All P xs
all_left P [] ys all = All-nil P
all_left P (x ∷ xs) ys all = All-cons P x xs (All-head P x (xs ++ ys) all) (all_left P xs ys (All-tail P x (xs ++ ys) all))

all_right : {X : Type 0} (P : X → Type 0) (xs ys : List X) → All P (xs ++ ys) → All P ys
all_right P [] ys all = all
all_right P (x ∷ xs) ys all = all_right P xs ys (All-tail P x (xs ++ ys) all)

not_true : (b : Bool) → not b ≡ true → b ≡ false
not_true true is = cc
not_true false is = refl

-- nothing was told and nothing is said
pub none_slow : (tree : Nodes) (first : List LimitedTest) → AreSlow tree first first [] []
none_slow tree first = record {
  running = λ none. All-nil (IsOfRunning tree []);
  once = λ none n. subst (λ (ts : List LimitedTest). times_said n [] + times_noted n ts ≤ times_started tree n []) (sym none) (nothing n);
  noted = λ none. subst (All (IsNoted tree [])) (sym none) (All-nil (IsNoted tree []));
}
  where
    nothing : (n : ℕ) → times_said n [] + times_noted n [] ≤ times_started tree n []
    nothing n = omega arith

module _ (tree : Nodes) (first old new : List LimitedTest) (ts : List Telling) (said : List Slow) (was : AreSlow tree first old ts said) where
  -- a test is noted no more
  fewer_noted : (s : Slow) → TakesOut s old new → (n : ℕ) → times_noted n old ≡ one_if (s.node == n) + times_noted n new
  fewer_noted s out n =
      let p : LimitedTest → Bool = λ t. t.node == n in
      let all = ap (times_noted n) out.was ∙ count_behind p out.before (out.test ∷ out.behind) in
      let one = count_front p out.test out.behind in
      let left = ap (times_noted n) out.left ∙ count_behind p out.before out.behind in
      let node = ap (λ (x : Slow). one_if (x.node == n)) out.is in
      omega (arith, all, one, left, node)

  left_noted : (s : Slow) → TakesOut s old new → first ≡ [] → All (IsNoted tree ts) new
  left_noted s out none =
      let all = subst (All (IsNoted tree ts)) out.was (was.noted none) in
      let behind = all_right (IsNoted tree ts) out.before (out.test ∷ out.behind) all in
      subst (All (IsNoted tree ts)) (sym out.left)
      (All-append (IsNoted tree ts) out.before out.behind (all_left (IsNoted tree ts) out.before (out.test ∷ out.behind) all) (All-tail (IsNoted tree ts) out.test out.behind behind))

  said_of : (s : Slow) → TakesOut s old new → first ≡ [] → IsOfRunning tree ts s
  said_of s out none =
      let all = subst (All (IsNoted tree ts)) out.was (was.noted none) in
      let noted = All-head (IsNoted tree ts) out.test out.behind (all_right (IsNoted tree ts) out.before (out.test ∷ out.behind) all) in
      let node : s.node ≡ out.test.node = ap (λ (x : Slow). x.node) out.is in
      record {
        told = ts;
        later = [];
        is = sym (append-nil ts);
        running = subst (IsRunningBehind tree ts) (sym node) noted.running;
        name = ap (λ (x : Slow). x.name) out.is ∙ noted.name ∙ sym (ap (name_in tree) node);
        slow = out.slow;
      }

  taken_out : (s : Slow) → TakesOut s old new → AreSlow tree first new ts said
  taken_out s out = record {
    running = was.running;
    once = λ none n. let before = was.once none n in let left = fewer_noted s out n in omega (arith, before, left);
    noted = left_noted s out;
  }

  said_one : (s : Slow) → TakesOut s old new → AreSlow tree first new ts (said ++ s ∷ [])
  said_one s out = record {
    running = λ none. All-push (IsOfRunning tree ts) said s (was.running none) (said_of s out none);
    once = λ none n.
        let before = was.once none n in
        let left = fewer_noted s out n in
        let more = count_behind (λ (x : Slow). x.node == n) said (s ∷ []) in
        let one = count_front (λ (x : Slow). x.node == n) s [] in
        let nil : count_by (λ (x : Slow). x.node == n) [] ≡ 0 = refl in
        omega (arith, before, left, more, one, nil);
    noted = left_noted s out;
  }

  -- what is said next
  pub said_next : (more : List Slow) → TakesNext old new more → AreSlow tree first new ts (said ++ more)
  said_next [] next = subst (AreSlow tree first new ts) (sym (append-nil said)) (elim next [ inl same ↦ subst (λ (l : List LimitedTest). AreSlow tree first l ts said) (sym same) was | inr out ↦ taken_out out.0 out.1 ])
  said_next (s ∷ []) next = said_one s next
  said_next (s ∷ r ∷ more) next = absurd next

module _ (tree : Nodes) (first old new : List LimitedTest) (ts : List Telling) (t : Telling) (said : List Slow) (was : AreSlow tree first old ts said) where
  later_said : (s : Slow) → IsOfRunning tree ts s → IsOfRunning tree (ts ++ t ∷ []) s
  later_said s is = record {
    told = is.told;
    later = is.later ++ t ∷ [];
    is = ap (λ (l : List Telling). l ++ t ∷ []) is.is ∙ append_assoc is.told is.later (t ∷ []);
    running = is.running;
    name = is.name;
    slow = is.slow;
  }

  all_said : first ≡ [] → All (IsOfRunning tree (ts ++ t ∷ [])) said
  all_said none = All-weaker (IsOfRunning tree ts) (IsOfRunning tree (ts ++ t ∷ [])) later_said said (was.running none)

  still_runs : (n : ℕ) → finishes n t ≡ false → IsRunningBehind tree ts n → IsRunningBehind tree (ts ++ t ∷ []) n
  still_runs n stays is = record {
    before = is.before;
    start = is.start;
    since = is.since ++ t ∷ [];
    is = ap (λ (l : List Telling). l ++ t ∷ []) is.is ∙ append_assoc is.before (is.start ∷ is.since) (t ∷ []);
    starts = is.starts;
    node = is.node;
    goes_on = list_any-append (finishes n) is.since (t ∷ []) ∙ ap₂ (λ (a b : Bool). a || (b || false)) is.goes_on stays;
  }

  still_noted : (x : LimitedTest) → finishes x.node t ≡ false → IsNoted tree ts x → IsNoted tree (ts ++ t ∷ []) x
  still_noted x stays is = record { running = still_runs x.node stays is.running; name = is.name }

  more_started : (n : ℕ) → times_started tree n (ts ++ t ∷ []) ≡ times_started tree n ts + (one_if (starts_test tree t && (t.event.node == n)) + 0)
  more_started n =
      let p : Telling → Bool = λ u. starts_test tree u && (u.event.node == n) in
      count_behind p ts (t ∷ []) ∙ ap (λ (k : ℕ). count_by p ts + k) (count_front p t [])

  -- it says of none that it finished
  passed : ((n : ℕ) → finishes n t ≡ false) → new ≡ old → AreSlow tree first new (ts ++ t ∷ []) said
  passed stays same = record {
    running = all_said;
    once = λ none n. let before = was.once none n in let more = more_started n in let now = ap (times_noted n) same in omega (arith, before, more, now);
    noted = λ none. subst (All (IsNoted tree (ts ++ t ∷ []))) (sym same) (All-weaker (IsNoted tree ts) (IsNoted tree (ts ++ t ∷ [])) (λ x. still_noted x (stays x.node)) old (was.noted none));
  }

  -- a test started, and is noted
  begun : ((n : ℕ) → finishes n t ≡ false) → starts_test tree t ≡ true → (x : LimitedTest) → IsOfNode tree t.event.node x → new ≡ old ++ x ∷ [] → AreSlow tree first new (ts ++ t ∷ []) said
  begun stays starts x of added = record {
    running = all_said;
    once = λ none n.
        let before = was.once none n in
        let more = more_started n in
        let now = ap (times_noted n) added ∙ count_behind (λ (y : LimitedTest). y.node == n) old (x ∷ []) in
        let one = count_front (λ (y : LimitedTest). y.node == n) x [] in
        let nil : count_by (λ (y : LimitedTest). y.node == n) [] ≡ 0 = refl in
        let same = ap₂ (λ (b : Bool) (m : ℕ). one_if (b && (m == n))) starts (sym of.node) in
        omega (arith, before, more, now, one, nil, same);
    noted = λ none.
        let others = All-weaker (IsNoted tree ts) (IsNoted tree (ts ++ t ∷ [])) (λ y. still_noted y (stays y.node)) old (was.noted none) in
        subst (All (IsNoted tree (ts ++ t ∷ []))) (sym added) (All-push (IsNoted tree (ts ++ t ∷ [])) old x others (noted_now));
  }
    where
      noted_now : IsNoted tree (ts ++ t ∷ []) x
      noted_now = record {
        running = record { before = ts; start = t; since = []; is = refl; starts = starts; node = sym of.node; goes_on = refl };
        name = of.name ∙ sym (ap (name_in tree) of.node);
      }

  -- a test finished, and is noted no more
  ended : ((n : ℕ) → finishes n t ≡ (t.event.node == n)) → new ≡ filter (λ (x : LimitedTest). not (t.event.node == x.node)) old → AreSlow tree first new (ts ++ t ∷ []) said
  ended is left =
      let keep : LimitedTest → Bool = λ x. not (t.event.node == x.node) in
      record {
        running = all_said;
        once = λ none n.
            let before = was.once none n in
            let more = more_started n in
            let now = ap (times_noted n) left in
            let less = fewer (λ (y : LimitedTest). y.node == n) keep old in
            omega (arith, before, more, now, less);
        noted = λ none.
            let kept = All-filter keep (IsNoted tree ts) old (was.noted none) in
            let others = filter_passes keep old in
            subst (All (IsNoted tree (ts ++ t ∷ []))) (sym left) (λ k d lt. still_noted _ (is _ ∙ not_true _ (others k d lt)) (kept k d lt));
      }

  by_kind : (k : EventKind) → t.event.kind ≡ k → NotesBy k tree t.event.node old new → AreSlow tree first new (ts ++ t ∷ []) said
  by_kind Started same notes =
      let stays : (n : ℕ) → finishes n t ≡ false = λ n. ap (λ (k : EventKind). is_finish k && (t.event.node == n)) same in
      elim notes [
        | inl is ↦ passed stays is
        | inr plain ↦
            elim plain.1 [
              | inl is ↦ passed stays is
              | inr added ↦ begun stays (ap (λ (k : EventKind). is_start k && is_plain_test tree t.event.node) same ∙ plain.0) added.0 added.1 added.2
            ]
      ]
  by_kind Finished same left = ended (λ n. ap (λ (k : EventKind). is_finish k && (t.event.node == n)) same) left
  by_kind Skipped same is = passed (λ n. ap (λ (k : EventKind). is_finish k && (t.event.node == n)) same) is
  by_kind Registered same is = passed (λ n. ap (λ (k : EventKind). is_finish k && (t.event.node == n)) same) is

  -- one event more was noted
  pub slow_on : NotesBy t.event.kind tree t.event.node old new → AreSlow tree first new (ts ++ t ∷ []) said
  slow_on notes = by_kind t.event.kind refl notes

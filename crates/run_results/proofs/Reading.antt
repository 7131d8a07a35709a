-- What is read from the tally of a plan's tree.
use Rattle.std.proofs.Common.{◌≡◌, ℕ, zero, suc, ◌<◌, ◌&&◌, ◌||◌, not, nat_lt, Bool, true, false, List, length, get_or, Option, Some, None, Result, Ok, Err, IfOk, refl, sym, ap, ◌∙◌, arith, zero-add}
use Rattle.std.specs.List.{range_with_len}
use Rattle.std.proofs.lemmas.List.Folds.{Any-from_list_any, list_any_at}
use Rattle.std.proofs.lemmas.Bool.Decides.{nat_tests}
use Rattle.std.proofs.lemmas.List.FromFn.{get_or-map-range_with_len, get_or-range_with_len, length-range_with_len}
use Rattle.descriptor.specs.Kinds.{is_test}
use Rattle.descriptor.specs.Nodes.{Nodes, IsTree, size, kind_of, is_spare_at, count_below}
use Rattle.plan_events.specs.declared.event.Event.{Event}
use Rattle.plan_events.specs.declared.status.Status.{Status}
use Rattle.plan_events.specs.declared.status.Status.TheVariants.{Successful, Aborted, Failed}
use Rattle.plan_events.specs.Statuses.{is_failed}
use Rattle.resource_locks.specs.Plans.{PlanParts}
use Rattle.run_results.specs.declared.node_places.NodePlace.{NodePlace}
use Rattle.run_results.specs.declared.told.NodeEvents.{NodeEvents}
use Rattle.run_results.specs.Counts.{place_of, outline_of, place_in, is_counted, is_found, was_found}
use Rattle.run_results.specs.Results.{is_failure, has_failed, HasFailed}
use Rattle.run_results.specs.Inside.Tallies.{TellsFailure}
use Rattle.run_results.specs.Told.{status_of, all_told, told_at, ended}
use Rattle.run_results.proofs.Places.{places_len}
use Rattle.run_results.proofs.ToldMore.{told_get, told_each}

-- what holds of a value holds of what is made of it
pub if_ok : {A E : Type 0} (P Q : A → Type 0) (r : Result A E) → ((a : A) → P a → Q a) → IfOk r P → IfOk r Q
if_ok P Q (Ok a) f p = f a p
if_ok P Q (Err e) f p = p

-- of each node of the tree it is known what was told
pub told_tree : (t : Nodes) → IsTree t → (events : List Event) (outline : List NodePlace) (told : List NodeEvents) → outline ≡ outline_of t → told ≡ all_told (length outline) events → told ≡ all_told (size t) events
told_tree t tree events outline told places is =
    is ∙ ap (λ (o : List NodePlace). all_told (length o) events) places ∙ ap (λ (n : ℕ). all_told n events) (places_len t tree)

module _ (p : PlanParts) (events : List Event) (told : List NodeEvents) (is : told ≡ all_told (size p.tree) events) where
  status_is : (n : ℕ) → n < size p.tree → (told_at told n).status ≡ status_of events n
  status_is n lt = ap (λ (ts : List NodeEvents). (told_at ts n).status) is ∙ ap (λ (t : NodeEvents). t.status) (told_get (size p.tree) events n _ lt)

  pub failed_told : TellsFailure told → HasFailed p events
  failed_told f =
      let inside : f.0 < size p.tree = omega (arith, f.2, told_each (size p.tree) events told is) in
      (f.0, f.1, inside, sym (status_is f.0 inside) ∙ f.3)

  pub told_failed : HasFailed p events → TellsFailure told
  told_failed f = (f.0, f.1, omega (arith, f.2, told_each (size p.tree) events told is), status_is f.0 f.2 ∙ f.3)

-- what is so by the one test and by the other
same_truth : (a b : Bool) → (a ≡ true → b ≡ true) → (b ≡ true → a ≡ true) → a ≡ b
same_truth true b to from = sym (to refl)
same_truth false true to from = from refl
same_truth false false to from = refl

left_of : (a b : Bool) → (a && b) ≡ true → a ≡ true
left_of true b h = refl
left_of false b h = h

right_of : (a b : Bool) → (a && b) ≡ true → b ≡ true
right_of true b h = h
right_of false b h = cc

failed_is : (status : Option Status) → ended is_failed status ≡ true → status ≡ Some Failed
failed_is (Some Failed) h = refl
failed_is (Some Successful) h = cc
failed_is (Some Aborted) h = cc
failed_is None h = cc

module _ (p : PlanParts) (events : List Event) where
  test_failed : HasFailed p events → has_failed p events ≡ true
  test_failed f =
      let place : get_or (range_with_len 0 (size p.tree)) f.0 0 ≡ f.0 = get_or-range_with_len 0 (size p.tree) f.0 0 f.2 ∙ zero-add f.0 in
      let above : nat_lt 0 f.0 ≡ true = grind (arith, nat_tests, f.1) in
      list_any_at (is_failure events) (range_with_len 0 (size p.tree)) f.0 0 (rw (length-range_with_len 0 (size p.tree)) f.2)
      (ap (is_failure events) place ∙ ap (λ (b : Bool). b && ended is_failed (status_of events f.0)) above ∙ ap (ended is_failed) f.3)

  failed_test : has_failed p events ≡ true → HasFailed p events
  failed_test h =
      let any = Any-from_list_any (is_failure events) (range_with_len 0 (size p.tree)) h in
      let inside : any.0 < size p.tree = omega (arith, any.2, length-range_with_len 0 (size p.tree)) in
      let place : any.1 ≡ any.0 = sym any.3 ∙ get_or-range_with_len 0 (size p.tree) any.0 any.1 inside ∙ zero-add any.0 in
      let above : nat_lt 0 any.1 ≡ true = left_of (nat_lt 0 any.1) (ended is_failed (status_of events any.1)) any.4 in (
        any.1,
        grind (arith, nat_tests, above),
        omega (arith, place, inside),
        failed_is (status_of events any.1) (right_of (nat_lt 0 any.1) (ended is_failed (status_of events any.1)) any.4),
      )

  -- the test and what it tests
  pub failure_is : (b : Bool) → (b ≡ true → HasFailed p events) → (HasFailed p events → b ≡ true) → b ≡ has_failed p events
  failure_is b to from = same_truth b (has_failed p events) (λ h. test_failed (to h)) (λ h. from (failed_test h))

count_same : (p q : ℕ → Bool) (k : ℕ) → ((n : ℕ) → n < k → p n ≡ q n) → count_below p k ≡ count_below q k
count_same p q zero same = refl
count_same p q (suc k) same = rw (same k (omega arith), count_same p q k (λ n lt. same n (omega (arith, lt)))) refl

module _ (t : Nodes) (tree : IsTree t) where
  kind_is : (n : ℕ) → n < size t → (place_in (outline_of t) n).kind ≡ kind_of t n
  kind_is n lt = ap (λ (p : NodePlace). p.kind) (get_or-map-range_with_len (place_of t) 0 (size t) n n _ lt (omega arith))

  -- node 0 is no test, so it does no harm to count it
  counted_is : (n : ℕ) → n < size t → is_counted is_test (outline_of t) n ≡ is_test (kind_of t n)
  counted_is zero lt = refl
  counted_is (suc n) lt =
      let above : nat_lt 0 (suc n) ≡ true = grind (arith, nat_tests) in
      ap (λ (b : Bool). b && is_test (place_in (outline_of t) (suc n)).kind) above ∙ ap is_test (kind_is (suc n) lt)

  found_is : (events : List Event) (n : ℕ) → n < size t → is_found (outline_of t) (all_told (size t) events) n ≡ was_found t events n
  found_is events n lt =
      ap (λ (p : NodePlace). not p.spare || (told_at (all_told (size t) events) n).registered) (get_or-map-range_with_len (place_of t) 0 (size t) n n _ lt (omega arith))
      ∙ ap (λ (x : NodeEvents). not (is_spare_at t n) || x.registered) (told_get (size t) events n _ lt)

  both_are : (events : List Event) (n : ℕ) → n < size t → (is_counted is_test (outline_of t) n && is_found (outline_of t) (all_told (size t) events) n) ≡ (is_test (kind_of t n) && was_found t events n)
  both_are events n lt =
      ap (λ (b : Bool). b && is_found (outline_of t) (all_told (size t) events) n) (counted_is n lt) ∙ ap (λ (b : Bool). is_test (kind_of t n) && b) (found_is events n lt)

  pub tests_are : (events : List Event) (outline : List NodePlace) (told : List NodeEvents) → outline ≡ outline_of t → told ≡ all_told (length outline) events
      → count_below (λ n. is_counted is_test outline n && is_found outline told n) (length outline) ≡ count_below (λ n. is_test (kind_of t n) && was_found t events n) (size t)
  tests_are events outline told is so =
      ap (λ (ts : List NodeEvents). count_below (λ n. is_counted is_test outline n && is_found outline ts n) (length outline)) (told_tree t tree events outline told is so)
      ∙ ap (λ (o : List NodePlace). count_below (λ n. is_counted is_test o n && is_found o (all_told (size t) events) n) (length o)) is
      ∙ ap (count_below (λ n. is_counted is_test (outline_of t) n && is_found (outline_of t) (all_told (size t) events) n)) (places_len t tree)
      ∙ count_same (λ n. is_counted is_test (outline_of t) n && is_found (outline_of t) (all_told (size t) events) n) (λ n. is_test (kind_of t n) && was_found t events n) (size t) (both_are events)

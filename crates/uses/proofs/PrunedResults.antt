-- In a tree of some nodes of another each node is expected to end as it was in that.
use Rattle.std.proofs.Common.{◌≡◌, ℕ, zero, suc, ◌+◌, ◌<◌, ◌≤◌, ◌&&◌, Bool, true, false, cond, eqb, List, Option, Some, None, refl, sym, ap, ap₂, ◌∙◌, arith, inl, inr, ◌⊎◌, subst}
use Rattle.std.proofs.lemmas.Bool.{lt-ltb, true≢false}
use Rattle.std.proofs.lemmas.Bool.Decides.{Decides-eqb}
use Rattle.std.specs.Option.{is_some}
use Rattle.std.specs.Prelude.{◌||◌, nat_lt}
use Rattle.descriptor.specs.declared.node.Node.{Node}
use Rattle.descriptor.specs.Nodes.{Nodes, IsTree, IsChild, size, parent_of, kind_or, role_or, body_or, after_or, reason_or, body_of, after_of, is_child, is_disabled, is_spare_at, count_below, bit}
use Rattle.descriptor.specs.Roles.{is_spare}
use Rattle.descriptor.specs.Pruned.{is_kept, new_number, IsClosed, KeepsNodes}
use Rattle.descriptor.proofs.Counts.{count_increases, count_reached}
use Rattle.event_history.specs.Expected.{Expected, Silent, Skips, expected_by, below_result, own_result, result_by, is_closed, is_stopped_by, leaves}
use Rattle.event_history.specs.Plans.{has_child, is_spare_of, spare_count, rank, sort_of, sort_by}
use Rattle.event_history.specs.Results.{Jobs, jobs_by, jobs_of, after_run}
use Rattle.plan_events.specs.declared.outcome.Reply.{Reply}
use Rattle.junit_report.specs.Expectations.{plan_on, result_at}
use Rattle.resource_locks.specs.Plans.{PlanParts}
use Rattle.selectors.proofs.Marks.{and_both, and_parts, is_or_is_not}
use Rattle.selectors.proofs.Truths.{never, same_truth}

-- one of two numbers is less, or they are the same
compare : (m n : ℕ) → (m < n) ⊎ ((m ≡ n) ⊎ (n < m))
compare zero zero = inr (inl refl)
compare zero (suc n) = inl (omega arith)
compare (suc m) zero = inr (inr (omega arith))
compare (suc m) (suc n) = elim (compare m n) [
  | inl less ↦ inl (omega (arith, less))
  | inr more ↦ elim more [ inl same ↦ inr (inl (ap suc same)) | inr greater ↦ inr (inr (omega (arith, greater))) ]
]

-- a node but node 0 has the result that its parent's gives it
pub step_is : (p : PlanParts) (reply : ℕ → Reply) (levels n : ℕ) → 0 < n → expected_by p reply (suc levels) n ≡ below_result p reply n (expected_by p reply levels (parent_of p.tree n))
step_is p reply levels zero above = absurd (omega arith)
step_is p reply levels (suc n) above = refl

-- whichever holds, there is none
no_after : (a b : Bool) (o : Option ℕ) → cond a o o ≡ cond b o o
no_after true true _ = refl
no_after true false _ = refl
no_after false true _ = refl
no_after false false _ = refl

-- what is below by these parts
abbrev by_parts : (ℕ → Reply) → Expected → Jobs → Bool → ℕ → Expected → Expected
by_parts reply above jobs spare place own = cond (is_closed above || is_stopped_by reply jobs || (spare && leaves reply jobs place)) Silent own

module _ (t u : Nodes) (tree : IsTree t) (keep : List Bool) (closed : IsClosed t keep) (kept : KeepsNodes t keep u) where
  next_kept : (n : ℕ) → is_kept keep n ≡ true → new_number keep (suc n) ≡ suc (new_number keep n)
  next_kept n is = let more : new_number keep (suc n) ≡ 1 + new_number keep n = ap (λ b. bit b + new_number keep n) is in omega arith

  next_left : (n : ℕ) → is_kept keep n ≡ false → new_number keep (suc n) ≡ new_number keep n
  next_left n left = let same : new_number keep (suc n) ≡ 0 + new_number keep n = ap (λ b. bit b + new_number keep n) left in omega arith

  above : (n : ℕ) → 0 < n → 0 < new_number keep n
  above n some = kept.ordered 0 n some closed.root

  -- of two kept nodes with one number one is the other
  one_number : (m n : ℕ) → is_kept keep m ≡ true → is_kept keep n ≡ true → new_number keep m ≡ new_number keep n → m ≡ n
  one_number m n first second same = elim (compare m n) [
    | inl less ↦ absurd (omega (arith, same, kept.ordered m n less first))
    | inr more ↦ elim more [ inl is ↦ is | inr greater ↦ absurd (omega (arith, same, kept.ordered n m greater second)) ]
  ]

  same_parent : (a f : ℕ) → is_kept keep a ≡ true → is_kept keep f ≡ true → eqb (new_number keep a) (new_number keep f) ≡ eqb a f
  same_parent a f first second = same_truth (eqb (new_number keep a) (new_number keep f)) (eqb a f)
      (λ h. (Decides-eqb a f).1 (one_number a f first second ((Decides-eqb (new_number keep a) (new_number keep f)).0 h)))
      (λ h. (Decides-eqb (new_number keep a) (new_number keep f)).1 (ap (new_number keep) ((Decides-eqb a f).0 h)))

  -- a child is a child
  child_same : (f m : ℕ) → is_kept keep f ≡ true → m < size t → is_kept keep m ≡ true → is_child u (new_number keep f) (new_number keep m) ≡ is_child t f m
  child_same f zero factory inside is = refl
  child_same f (suc m) factory inside is =
      ap₂ (λ a b. a && b) (lt-ltb 0 (new_number keep (suc m)) (above (suc m) (omega arith)) ∙ sym (lt-ltb 0 (suc m) (omega arith)))
      (ap (λ x. eqb x (new_number keep f)) (kept.parent (suc m) (omega arith) inside is) ∙ same_parent (parent_of t (suc m)) f (closed.up (suc m) (omega arith) inside is) factory)

  spare_same : (f m : ℕ) → is_kept keep f ≡ true → m < size t → is_kept keep m ≡ true → is_spare_of (plan_on u) (new_number keep f) (new_number keep m) ≡ is_spare_of (plan_on t) f m
  spare_same f m factory inside is = ap₂ (λ a b. a && b) (child_same f m factory inside is) (ap (λ (o : Option Node). is_spare (role_or o)) (kept.told m inside is))

  -- what passes is counted alike if all of it is kept
  count_same : (q r : ℕ → Bool) → ((m : ℕ) → m < size t → is_kept keep m ≡ true → r (new_number keep m) ≡ q m) → ((m : ℕ) → m < size t → q m ≡ true → is_kept keep m ≡ true) → (n : ℕ) → n ≤ size t → count_below r (new_number keep n) ≡ count_below q n
  count_same q r same all zero most = refl
  count_same q r same all (suc n) most = elim (is_or_is_not (is_kept keep n)) [
    | inl is ↦ ap (count_below r) (next_kept n is) ∙ ap₂ (λ b c. bit b + c) (same n (omega arith) is) (count_same q r same all n (omega arith))
    | inr left ↦
        let none : q n ≡ false = never (q n) (λ h. true≢false (sym (all n (omega arith) h) ∙ left)) in
        let added : count_below q (suc n) ≡ 0 + count_below q n = ap (λ b. bit b + count_below q n) none in
        let same_count : count_below q (suc n) ≡ count_below q n = omega (arith, added) in
        ap (count_below r) (next_left n left) ∙ count_same q r same all n (omega arith) ∙ sym same_count
  ]

  module _ (spares : (f m : ℕ) → is_kept keep f ≡ true → IsChild t f m → is_spare_at t m ≡ true → is_kept keep m ≡ true)
      (some : (n b c : ℕ) → n < size t → is_kept keep n ≡ true → after_of t n ≡ Some b → IsChild t n c → (d : ℕ) × IsChild t n d × (is_kept keep d ≡ true)) where
    is_child_of : (f m : ℕ) → m < size t → is_child t f m ≡ true → IsChild t f m
    is_child_of f zero inside h = absurd (true≢false (sym h))
    is_child_of f (suc m) inside h = record { above_zero = omega arith; inside = inside; parent = (Decides-eqb (parent_of t (suc m)) f).0 (and_parts (nat_lt 0 (suc m)) _ h).1 }

    as_child : (f m : ℕ) → IsChild t f m → is_child t f m ≡ true
    as_child f m e = and_both (nat_lt 0 m) (eqb (parent_of t m) f) (lt-ltb 0 m e.above_zero) ((Decides-eqb (parent_of t m) f).1 e.parent)

    all_spares : (f : ℕ) → is_kept keep f ≡ true → (m : ℕ) → m < size t → is_spare_of (plan_on t) f m ≡ true → is_kept keep m ≡ true
    all_spares f is m inside h = let both = and_parts (is_child t f m) (is_spare_at t m) h in spares f m is (is_child_of f m inside both.0) both.1

    count_spares : (f : ℕ) → is_kept keep f ≡ true → (n : ℕ) → n ≤ size t → count_below (is_spare_of (plan_on u) (new_number keep f)) (new_number keep n) ≡ count_below (is_spare_of (plan_on t) f) n
    count_spares f is n most = count_same (is_spare_of (plan_on t) f) (is_spare_of (plan_on u) (new_number keep f)) (λ m inside at. spare_same f m is inside at) (all_spares f is) n most

    same_spares : (f : ℕ) → is_kept keep f ≡ true → spare_count (plan_on u) (new_number keep f) ≡ spare_count (plan_on t) f
    same_spares f is = ap (count_below (is_spare_of (plan_on u) (new_number keep f))) kept.counted ∙ count_spares f is (size t) (omega arith)

    -- a container with an after-body has a child if it had one
    same_child : (n b : ℕ) → n < size t → is_kept keep n ≡ true → after_of t n ≡ Some b → has_child (plan_on u) (new_number keep n) ≡ has_child (plan_on t) n
    same_child n b inside is after = same_truth (has_child (plan_on u) (new_number keep n)) (has_child (plan_on t) n)
        (λ h.
        let at = count_reached (is_child u (new_number keep n)) (size u) 0 (positive (count_below (is_child u (new_number keep n)) (size u)) h) in
        let was = kept.each at.0 at.1.0 in
        let mine : is_child t n was.0 ≡ true = sym (child_same n was.0 is was.1.0 was.1.1) ∙ ap (is_child u (new_number keep n)) was.1.2 ∙ at.1.1 in
        lt-ltb 0 (count_below (is_child t n) (size t)) (omega (arith, count_increases (is_child t n) was.0 (size t) was.1.0 mine)))
        (λ h.
        let at = count_reached (is_child t n) (size t) 0 (positive (count_below (is_child t n) (size t)) h) in
        let one = some n b at.0 inside is after (is_child_of n at.0 at.1.0 at.1.1) in
        let mine : is_child u (new_number keep n) (new_number keep one.0) ≡ true = child_same n one.0 is one.1.inside one.2 ∙ as_child n one.0 one.1 in
        let less : new_number keep one.0 < new_number keep (size t) = kept.ordered one.0 (size t) one.1.inside one.2 in
        lt-ltb 0 (count_below (is_child u (new_number keep n)) (size u)) (omega (arith, count_increases (is_child u (new_number keep n)) (new_number keep one.0) (size u) (subst (λ s. new_number keep one.0 < s) (sym kept.counted) less) mine)))
      where
        positive : (n : ℕ) → nat_lt 0 n ≡ true → 0 < n
        positive zero h = absurd (true≢false (sym h))
        positive (suc n) h = omega arith

    same_after : (n : ℕ) → n < size t → is_kept keep n ≡ true → after_run (plan_on u) (new_number keep n) ≡ after_run (plan_on t) n
    same_after n inside is =
        ap (λ (o : Option Node). cond (has_child (plan_on u) (new_number keep n)) (after_or o) None) (kept.told n inside is)
        ∙ by (after_of t n) refl
      where
        by : (o : Option ℕ) → after_of t n ≡ o → cond (has_child (plan_on u) (new_number keep n)) (after_of t n) None ≡ cond (has_child (plan_on t) n) (after_of t n) None
        by None none = ap (λ (o : Option ℕ). cond (has_child (plan_on u) (new_number keep n)) o None) none ∙ no_after (has_child (plan_on u) (new_number keep n)) (has_child (plan_on t) n) None ∙ sym (ap (λ (o : Option ℕ). cond (has_child (plan_on t) n) o None) none)
        by (Some b) after = ap (λ h. cond h (after_of t n) None) (same_child n b inside is after)

    same_jobs : (n : ℕ) → n < size t → is_kept keep n ≡ true → jobs_of (plan_on u) (new_number keep n) ≡ jobs_of (plan_on t) n
    same_jobs n inside is =
        ap (λ (o : Option Node). jobs_by (sort_by (kind_or o) (role_or o)) (body_or o) (after_run (plan_on u) (new_number keep n)) (spare_count (plan_on u) (new_number keep n))) (kept.told n inside is)
        ∙ ap₂ (λ after count. jobs_by (sort_of t n) (body_of t n) after count) (same_after n inside is) (same_spares n is)

    same_own : (reply : ℕ → Reply) (n : ℕ) → n < size t → is_kept keep n ≡ true → own_result (plan_on u) reply (new_number keep n) ≡ own_result (plan_on t) reply n
    same_own reply n inside is =
        ap (λ (o : Option Node). cond (is_some (reason_or o)) Skips (result_by reply (jobs_of (plan_on u) (new_number keep n)))) (kept.told n inside is)
        ∙ ap (λ jobs. cond (is_disabled t n) Skips (result_by reply jobs)) (same_jobs n inside is)

    same_rank : (n : ℕ) → 0 < n → n < size t → is_kept keep n ≡ true → rank (plan_on u) (new_number keep n) ≡ rank (plan_on t) n
    same_rank n some inside is =
        ap (λ f. count_below (is_spare_of (plan_on u) f) (new_number keep n)) (kept.parent n some inside is)
        ∙ count_spares (parent_of t n) (closed.up n some inside is) n (omega arith)

    same_below : (reply : ℕ → Reply) (n : ℕ) → 0 < n → n < size t → is_kept keep n ≡ true → (over : Expected) → below_result (plan_on u) reply (new_number keep n) over ≡ below_result (plan_on t) reply n over
    same_below reply n some inside is over =
        let f = parent_of t n in
        let within : f < size t = omega (arith, tree.up n some inside) in
        let jobs : jobs_of (plan_on u) (parent_of u (new_number keep n)) ≡ jobs_of (plan_on t) f = ap (jobs_of (plan_on u)) (kept.parent n some inside is) ∙ same_jobs f within (closed.up n some inside is) in
        let spare : is_spare_at u (new_number keep n) ≡ is_spare_at t n = ap (λ (o : Option Node). is_spare (role_or o)) (kept.told n inside is) in
        ap (λ j. by_parts reply over j (is_spare_at u (new_number keep n)) (rank (plan_on u) (new_number keep n)) (own_result (plan_on u) reply (new_number keep n))) jobs
        ∙ ap (λ s. by_parts reply over (jobs_of (plan_on t) f) s (rank (plan_on u) (new_number keep n)) (own_result (plan_on u) reply (new_number keep n))) spare
        ∙ ap₂ (λ r o. by_parts reply over (jobs_of (plan_on t) f) (is_spare_at t n) r o) (same_rank n some inside is) (same_own reply n inside is)

    same_levels : (reply : ℕ → Reply) (k l n : ℕ) → n < k → new_number keep n < l → n < size t → is_kept keep n ≡ true → expected_by (plan_on u) reply l (new_number keep n) ≡ expected_by (plan_on t) reply k n
    same_levels reply zero l n enough levels inside is = absurd (omega arith)
    same_levels reply (suc k) zero n enough levels inside is = absurd (omega arith)
    same_levels reply (suc k) (suc l) zero enough levels inside is = same_own reply 0 inside is
    same_levels reply (suc k) (suc l) (suc m) enough levels inside is =
        let n = suc m in
        let f = parent_of t (suc m) in
        let up : f < suc m = tree.up (suc m) (omega arith) inside in
        let at : is_kept keep f ≡ true = closed.up (suc m) (omega arith) inside is in
        let lower : new_number keep f < new_number keep (suc m) = kept.ordered f (suc m) up at in
        step_is (plan_on u) reply l (new_number keep (suc m)) (above (suc m) (omega arith))
        ∙ ap (λ x. below_result (plan_on u) reply (new_number keep (suc m)) (expected_by (plan_on u) reply l x)) (kept.parent (suc m) (omega arith) inside is)
        ∙ ap (below_result (plan_on u) reply (new_number keep (suc m))) (same_levels reply k l f (omega arith) (omega arith) (omega arith) at)
        ∙ same_below reply (suc m) (omega arith) inside is (expected_by (plan_on t) reply k f)

    pub same_result : (reply : ℕ → Reply) (n : ℕ) → n < size t → is_kept keep n ≡ true → result_at u reply (new_number keep n) ≡ result_at t reply n
    same_result reply n inside is = same_levels reply (suc n) (suc (new_number keep n)) n (omega arith) (omega arith) inside is

-- All jobs that are handed in are in slots or unused; which are missing; and the rule at the start.
use Rattle.std.proofs.Common.{◌≡◌, ◌≢◌, ℕ, zero, suc, ◌+◌, ◌<◌, ◌≤◌, ◌&&◌, not, cond, Bool, true, false, List, [], ◌∷◌, ◌++◌, length, Option, Some, None, Result, Ok, Err, IfOk, sym, refl, ap, ◌∙◌, subst, append_assoc, arith}
use Rattle.std.specs.Option.{is_some}
use Rattle.std.specs.List.Sorted.{IsPermutation}
use Rattle.std.proofs.lemmas.List.{append-nil}
use Rattle.std.proofs.lemmas.List.Sorted.{IsPermutation-refl, IsPermutation-sym, IsPermutation-trans, IsPermutation-cons, IsPermutation-middle, IsPermutation-append_right, IsPermutation-to_front}
use Rattle.std.proofs.lemmas.Option.{none-some}
use mathlib.Core.Option.{some, some-injective}
use mathlib.Core.Logic.{dite}
use native.Mathlib.Decide.{ℕ_discrete}
use lib.ListN.{get_elem?, take, drop}
use Rattle.atomic_table.specs.Table.{opening as table_opening}
use Rattle.descriptor.specs.Nodes.{IsTree}
use Rattle.plan_events.specs.declared.outcome.Outcome.{Outcome}
use Rattle.plan_events.specs.declared.outcome.Reply.{Reply}
use Rattle.resource_locks.specs.Plans.{PlanParts, IsPlan}
use Rattle.scheduling.specs.Runs.{opening}
use Rattle.table_rule.specs.declared.view.About.{About}
use Rattle.table_rule.specs.declared.view.Slot.{Slot}
use Rattle.table_rule.specs.declared.view.Slot.TheVariants.{Empty}
use Rattle.table_rule.specs.Slots.{slot_count, job_at, job_with, slot_with, slot_for}
use Rattle.table_rule.specs.Picture.{Ruled, opener}
use Rattle.table_rule.specs.Rings.{empty_ring}
use Rattle.table_rule.specs.Words.{words_of}
use Rattle.table_rule.specs.Moments.{IsStart}
use Rattle.table_rule.proofs.Moments.{starts}
use Rattle.table_rule.proofs.Ruled.{rule_opens}
use Rattle.table_contents.specs.Prepared.{slot_of, goes_in, unused_after, job_in, jobs_from, IsMissing, IsLeastMissing, HasAllJobs}
use Rattle.table_contents.specs.Filling.{IsFilled, IsBare, IsLeastBare}
use Rattle.table_contents.proofs.Filled.{slot_is, slot_found, no_job, one_more, other_slot, first_counts, others_same, unused_more}

module _ {B : Type 0} where
  -- Before any job.
  none_for : (o : Option ℕ) → slot_for {B = B} [] o ≡ Empty
  none_for None = refl
  none_for (Some number) = refl

  pub start_filled : (p : PlanParts) (slots : List (Slot B)) (unused : List (ℕ × B)) → length slots ≡ slot_count p → ((k : ℕ) → k < slot_count p → get_elem? slots k ≡ some Empty) → unused ≡ [] → IsFilled p [] slots unused
  start_filled p slots unused many empty none = record { many = many; slots_are = λ k low. empty k low ∙ ap (λ x. some x) (sym (none_for (job_at p k))); unused_is = none }

  -- Which jobs are missing.
  bare_missing : (p : PlanParts) (jobs : List (ℕ × B)) (slots : List (Slot B)) (unused : List (ℕ × B)) → IsFilled p jobs slots unused → (number : ℕ) → IsBare p slots (slot_count p) number → IsMissing p jobs number
  bare_missing p jobs slots unused filled number bare = record {
    slot = bare.slot;
    inside = bare.inside;
    is = bare.is;
    none = no_job (job_with jobs number) (some-injective _ Empty (sym (filled.slots_are bare.slot bare.inside ∙ ap (λ o. some (slot_for jobs o)) bare.is) ∙ bare.empty));
  }

  missing_bare : (p : PlanParts) (jobs : List (ℕ × B)) (slots : List (Slot B)) (unused : List (ℕ × B)) → IsFilled p jobs slots unused → (number : ℕ) → IsMissing p jobs number → IsBare p slots (slot_count p) number
  missing_bare p jobs slots unused filled number gone = record {
    slot = gone.slot;
    inside = gone.inside;
    is = gone.is;
    empty = filled.slots_are gone.slot gone.inside ∙ (ap (λ o. some (slot_for jobs o)) gone.is ∙ ap (λ o. some (slot_with o)) gone.none);
  }

  pub least_missing : (p : PlanParts) (jobs : List (ℕ × B)) (slots : List (Slot B)) (unused : List (ℕ × B)) → IsFilled p jobs slots unused → (number : ℕ) → IsLeastBare p slots (slot_count p) (Some number) → IsLeastMissing p jobs number
  least_missing p jobs slots unused filled number least = record { missing = bare_missing p jobs slots unused filled number least.0; least = λ other gone. least.1 other (missing_bare p jobs slots unused filled other gone) }

  pub all_there : (p : PlanParts) (jobs : List (ℕ × B)) (slots : List (Slot B)) (unused : List (ℕ × B)) → IsFilled p jobs slots unused → IsLeastBare p slots (slot_count p) None → HasAllJobs p jobs
  all_there p jobs slots unused filled none number gone = none number (missing_bare p jobs slots unused filled number gone)

  pub has_job : (p : PlanParts) (jobs : List (ℕ × B)) → HasAllJobs p jobs → (k number : ℕ) → k < slot_count p → job_at p k ≡ Some number → is_some (job_with jobs number) ≡ true
  has_job p jobs all k number low at = go (job_with jobs number) refl
    where
      go : (found : Option B) → job_with jobs number ≡ found → is_some found ≡ true
      go None e = absurd (all number (record { slot = k; inside = low; is = at; none = e }))
      go (Some job) e = refl

  -- The jobs in slots, by what each slot has.
  abbrev pub some_of : (ℕ → List (ℕ × B)) → ℕ → ℕ → List (ℕ × B)
  some_of w k zero = []
  some_of w k (suc many) = w k ++ some_of w (suc k) many

  same_jobs : (w v : ℕ → List (ℕ × B)) (k many : ℕ) → ((j : ℕ) → k ≤ j → w j ≡ v j) → some_of w k many ≡ some_of v k many
  same_jobs w v k zero same = refl
  same_jobs w v k (suc many) same = λ i. same k (omega arith) i ++ same_jobs w v (suc k) many (λ j low. same j (omega (arith, low))) i

  -- one of them has got this job
  one_job : (w v : ℕ → List (ℕ × B)) (x : ℕ × B) (i k many : ℕ) → k ≤ i → i < k + many → w i ≡ [] → v i ≡ x ∷ [] → ((j : ℕ) → j ≢ i → w j ≡ v j) → IsPermutation (x ∷ some_of w k many) (some_of v k many)
  one_job w v x i k zero low high none one same = absurd (omega (arith, low, high))
  one_job w v x i k (suc many) low high none one same = dite (ℕ_discrete k i)
      (λ e. (let rest = same_jobs w v (suc k) many (λ j after. same j (λ q. absurd (let h : j ≡ i = q in omega (arith, h, e, after)))) in
      subst (IsPermutation (x ∷ (w k ++ some_of w (suc k) many))) ((λ t. x ∷ ((ap w e ∙ none) t ++ rest t)) ∙ ap (λ l. l ++ some_of v (suc k) many) (sym (ap v e ∙ one))) (IsPermutation-refl (x ∷ (w k ++ some_of w (suc k) many)))))
      (λ ne. IsPermutation-trans _ _ _ (IsPermutation-sym _ _ (IsPermutation-middle (w k) x (some_of w (suc k) many)))
      (subst (λ l. IsPermutation (w k ++ x ∷ some_of w (suc k) many) (l ++ some_of v (suc k) many)) (same k ne) (IsPermutation-append_right (w k) _ _ (one_job w v x i (suc k) many (omega (arith, low, ne)) (let e : i < suc k + many = omega (arith, high) in e) none one same))))

  abbrev pub stands_in : PlanParts → List (ℕ × B) → ℕ → List (ℕ × B)
  stands_in p before k = job_in (job_at p k) (slot_for before (job_at p k))

  -- one more job is in its slot, or unused
  one_further : (p : PlanParts) → IsTree p.tree → (before : List (ℕ × B)) (job : ℕ × B) → IsPermutation before (unused_after p [] before ++ some_of (stands_in p before) 0 (slot_count p))
      → IsPermutation (before ++ job ∷ []) (unused_after p [] (before ++ job ∷ []) ++ some_of (stands_in p (before ++ job ∷ [])) 0 (slot_count p))
  one_further p tree before job so_far = IsPermutation-trans _ _ _ (IsPermutation-to_front before job) (IsPermutation-trans _ _ _ (IsPermutation-cons job _ _ so_far) (go (slot_of p job.0) (job_with before job.0) refl refl))
    where
      old : List (ℕ × B)
      old = unused_after p [] before

      slots : List (ℕ × B)
      slots = some_of (stands_in p before) 0 (slot_count p)

      next : List (ℕ × B)
      next = some_of (stands_in p (before ++ job ∷ [])) 0 (slot_count p)

      stays : goes_in p before job.0 ≡ false → slots ≡ next → IsPermutation (job ∷ (old ++ slots)) (unused_after p [] (before ++ job ∷ []) ++ next)
      stays no_place same = subst (λ l. IsPermutation (job ∷ (old ++ slots)) (l ++ next)) (sym (unused_more p [] before job ∙ ap (λ (b : Bool). old ++ cond b [] (job ∷ [])) no_place))
          (subst (IsPermutation (job ∷ (old ++ slots))) (sym (append_assoc old (job ∷ []) next)) (subst (λ l. IsPermutation (job ∷ (old ++ slots)) (old ++ job ∷ l)) same (IsPermutation-sym _ _ (IsPermutation-middle old job slots))))

      same_slot : (k : ℕ) → ((number : ℕ) → job_at p k ≡ Some number → job.0 ≡ number → job_with (before ++ job ∷ []) number ≡ job_with before number) → stands_in p before k ≡ stands_in p (before ++ job ∷ []) k
      same_slot k here = ap (job_in (job_at p k)) (by (job_at p k) refl)
        where
          by : (o : Option ℕ) → job_at p k ≡ o → slot_for before o ≡ slot_for (before ++ job ∷ []) o
          by None e = refl
          by (Some number) e = dite (ℕ_discrete job.0 number) (λ q. ap slot_with (sym (here number e q))) (λ ne. ap slot_with (sym (others_same before job.0 number job.1 ne)))

      go : (place : Option ℕ) (found : Option B) → slot_of p job.0 ≡ place → job_with before job.0 ≡ found → IsPermutation (job ∷ (old ++ slots)) (unused_after p [] (before ++ job ∷ []) ++ next)
      go None found e q = stays (ap (λ (o : Option ℕ). is_some o && not (is_some (job_with before job.0))) e)
          (in_range_same 0 (slot_count p) (λ k low. same_slot k (λ number at same. absurd (none-some k (sym e ∙ slot_found p tree job.0 k (let inside : k < slot_count p = omega (arith, low) in inside) (at ∙ ap (λ (n : ℕ). Some n) (sym same)))))))
        where
          in_range_same : (k many : ℕ) → ((j : ℕ) → j < k + many → stands_in p before j ≡ stands_in p (before ++ job ∷ []) j) → some_of (stands_in p before) k many ≡ some_of (stands_in p (before ++ job ∷ [])) k many
          in_range_same k zero same = refl
          in_range_same k (suc many) same = λ i. same k (omega arith) i ++ in_range_same (suc k) many (λ j low. same j (omega (arith, low))) i
      go (Some k) (Some first) e q = stays (λ i. is_some (e i) && not (is_some (q i))) (same_jobs _ _ 0 (slot_count p) (λ j low. same_slot j (λ number at same. first_counts before (job ∷ []) number first (ap (job_with before) (sym same) ∙ q) ∙ sym (ap (job_with before) (sym same) ∙ q))))
      go (Some k) None e q =
          let at = (slot_is p job.0 k e).1 in
          subst (λ l. IsPermutation (job ∷ (old ++ slots)) (l ++ next)) (sym (unused_more p [] before job ∙ (ap (λ (b : Bool). old ++ cond b [] (job ∷ [])) (λ i. is_some (e i) && not (is_some (q i))) ∙ append-nil old)))
          (IsPermutation-trans _ _ _ (IsPermutation-sym _ _ (IsPermutation-middle old job slots))
          (IsPermutation-append_right old _ _ (one_job (stands_in p before) (stands_in p (before ++ job ∷ [])) job k 0 (slot_count p) (omega arith) (let low = (slot_is p job.0 k e).0 in omega (arith, low))
          (ap (λ o. job_in o (slot_for before o)) at ∙ ap (λ o. job_in (Some job.0) (slot_with o)) q)
          (ap (λ o. job_in o (slot_for (before ++ job ∷ []) o)) at ∙ ap (λ o. job_in (Some job.0) (slot_with o)) (one_more before job.0 job.1 q))
          (λ j ne. ap (job_in (job_at p j)) (sym (other_slot p tree job.0 j k job.1 at ne before (job_at p j) refl))))))

  further : (p : PlanParts) → IsTree p.tree → (before jobs : List (ℕ × B)) → IsPermutation before (unused_after p [] before ++ some_of (stands_in p before) 0 (slot_count p))
      → IsPermutation (before ++ jobs) (unused_after p [] (before ++ jobs) ++ some_of (stands_in p (before ++ jobs)) 0 (slot_count p))
  further p tree before [] so_far = subst (λ l. IsPermutation l (unused_after p [] l ++ some_of (stands_in p l) 0 (slot_count p))) (sym (append-nil before)) so_far
  further p tree before (job ∷ jobs) so_far = subst (λ l. IsPermutation l (unused_after p [] l ++ some_of (stands_in p l) 0 (slot_count p))) (append_assoc before (job ∷ []) jobs) (further p tree (before ++ job ∷ []) jobs (one_further p tree before job so_far))

  nothing : (p : PlanParts) (k many : ℕ) → some_of (stands_in p []) k many ≡ []
  nothing p k zero = refl
  nothing p k (suc many) = λ i. empty (job_at p k) i ++ nothing p (suc k) many i
    where
      empty : (o : Option ℕ) → job_in {B = B} o (slot_for [] o) ≡ []
      empty None = refl
      empty (Some number) = refl

  from_slots : (p : PlanParts) (jobs : List (ℕ × B)) (k : ℕ) (slots : List (Slot B)) → ((j : ℕ) → j < length slots → get_elem? slots j ≡ some (slot_for jobs (job_at p (k + j)))) → jobs_from p k slots ≡ some_of (stands_in p jobs) k (length slots)
  from_slots p jobs k [] each = refl
  from_slots p jobs k (slot ∷ slots) each = λ i. job_in (job_at p k) (here i) ++ from_slots p jobs (suc k) slots (λ j low. each (suc j) (omega (arith, low)) ∙ ap (λ (n : ℕ). some (slot_for jobs (job_at p n))) (let e : k + suc j ≡ suc k + j = omega arith in e)) i
    where
      here : slot ≡ slot_for jobs (job_at p k)
      here = some-injective slot _ (each 0 (omega arith) ∙ ap (λ (n : ℕ). some (slot_for jobs (job_at p n))) (let e : k + 0 ≡ k = omega arith in e))

  -- the jobs that are handed in are those unused and those of each slot
  pub by_slots : (p : PlanParts) → IsTree p.tree → (jobs : List (ℕ × B)) → IsPermutation jobs (unused_after p [] jobs ++ some_of (stands_in p jobs) 0 (slot_count p))
  by_slots p tree jobs = further p tree [] jobs (subst (λ l. IsPermutation {X = ℕ × B} [] l) (sym (nothing p 0 (slot_count p))) (IsPermutation-refl []))

  -- and so those unused and those in slots
  pub all_jobs : (p : PlanParts) → IsTree p.tree → (jobs : List (ℕ × B)) (slots : List (Slot B)) (unused : List (ℕ × B)) → IsFilled p jobs slots unused → IsPermutation jobs (unused ++ jobs_from p 0 slots)
  all_jobs p tree jobs slots unused filled =
      subst (IsPermutation jobs) (λ i. sym filled.unused_is i ++ (sym (from_slots p jobs 0 slots (λ j low. filled.slots_are j (subst (λ (n : ℕ). j < n) filled.many low) ∙ ap (λ (n : ℕ). some (slot_for jobs (job_at p n))) (let e : j ≡ 0 + j = omega arith in e)) ∙ ap (some_of (stands_in p jobs) 0) filled.many)) i)
      (by_slots p tree jobs)

-- a list that was lent whole and came back as long as it was
pub whole_back : {X : Type 0} (now old : List X) (n : ℕ) → length now ≡ length old → n ≡ length old → take n (now ++ drop (length now) old) ≡ now
whole_back [] [] zero same many = refl
whole_back [] [] (suc n) same many = refl
whole_back [] (y ∷ old) n same many = absurd (omega (arith, same))
whole_back (x ∷ now) [] n same many = absurd (omega (arith, same))
whole_back (x ∷ now) (y ∷ old) zero same many = absurd (omega (arith, many))
whole_back (x ∷ now) (y ∷ old) (suc n) same many = ap (λ l. x ∷ l) (whole_back now old n (omega (arith, same)) (omega (arith, many)))

-- what holds anyway, holds where it is accepted
pub ok_always : {X E : Type 0} (P : Type 0) (r : Result X E) → P → IfOk r (λ x. P)
ok_always P (Ok x) h = h
ok_always P (Err e) h = tt

-- The rule holds of a table that is made so.
pub table_opens : {B : Type 0} {says : B → Outcome → Type 0} {given : ℕ → Reply → Type 0} (replies : ℕ → List Reply) (key : About B) (p : PlanParts) → key.plan ≡ p → IsPlan p → 0 < key.workers → key.workers ≤ 64 → 0 < key.ring → (words : List ℕ) (slots : List (Slot B)) (unused : List (ℕ × B)) → words ≡ words_of (empty_ring key.ring) (opening p key.workers)
    → IsFilled p key.jobs slots unused → Ruled says given replies key (table_opening words slots (opener key))
table_opens replies key p same plan crew few above words slots unused is filled =
    let fits : IsFilled key.plan key.jobs slots unused = subst (λ q. IsFilled q key.jobs slots unused) (sym same) filled in
    rule_opens replies key words slots (subst IsPlan (sym same) plan) crew few above (subst (λ q. words ≡ words_of (empty_ring key.ring) (opening q key.workers)) (sym same) is) fits.many (λ k low. fits.slots_are k low)

-- and that is the start of a run
pub table_starts : {B : Type 0} (replies : ℕ → List Reply) (key : About B) (p : PlanParts) → key.plan ≡ p → IsPlan p → 0 < key.workers → key.workers ≤ 64 → 0 < key.ring → (words : List ℕ) (slots : List (Slot B)) (unused : List (ℕ × B)) → words ≡ words_of (empty_ring key.ring) (opening p key.workers)
    → IsFilled p key.jobs slots unused → IsStart replies key
table_starts replies key p same plan crew few above words slots unused is filled =
    let fits : IsFilled key.plan key.jobs slots unused = subst (λ q. IsFilled q key.jobs slots unused) (sym same) filled in
    starts replies key words slots (subst IsPlan (sym same) plan) crew few above (subst (λ q. words ≡ words_of (empty_ring key.ring) (opening q key.workers)) (sym same) is) fits.many (λ k low. fits.slots_are k low)

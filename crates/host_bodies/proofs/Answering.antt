-- Jobs that were not run may answer.
use Rattle.std.proofs.Common.{◌≡◌, ℕ, ◌==◌, ◌<◌, cond, Bool, true, false, not, ◌&&◌, List, [], ◌∷◌, ◌++◌, length, Some, refl, sym, subst}
use Rattle.std.proofs.lemmas.Bool.{false≢true}
use Rattle.std.proofs.lemmas.Option.{none-some, same_Some}
use Rattle.plan_events.specs.Jobs.{unpulled}
use Rattle.resource_locks.specs.Plans.{PlanParts}
use Rattle.table_rule.specs.Slots.{job_with}
use Rattle.worker_pool.specs.Premises.{JobsMayAnswer}
use Rattle.worker_pool.specs.Reports.{run_of}
use Rattle.host_bodies.specs.HostJobs.{is_asked, replies_left}
use Rattle.host_bodies.specs.Replies.{replies_by}
use Rattle.host_bodies.specs.declared.host_job.HostJob.{HostJob}
use Rattle.test_bodies.proofs.Replying.{some_left, some_unpulled}
use Rattle.host_bodies.specs.Fresh.{are_fresh}

first_true : (a b : Bool) → (a && b) ≡ true → a ≡ true
first_true true b q = refl
first_true false b q = q

second_true : (a b : Bool) → (a && b) ≡ true → b ≡ true
second_true true b q = q
second_true false b q = absurd (false≢true q)

both_true : (a b : Bool) → a ≡ true → b ≡ true → (a && b) ≡ true
both_true true b p q = q
both_true false b p q = p

not_true : (a : Bool) → not a ≡ true → a ≡ false
not_true true q = absurd (false≢true q)
not_true false q = refl

-- one more that was not run
pub fresh_more : (jobs : List (ℕ × HostJob)) (number : ℕ) (job : HostJob) → is_asked job.heard ≡ false → are_fresh jobs ≡ true → are_fresh (jobs ++ (number, job) ∷ []) ≡ true
fresh_more [] number job fresh each = subst (λ (b : Bool). (not b && true) ≡ true) (sym fresh) refl
fresh_more (x ∷ jobs) number job fresh each = both_true (not (is_asked x.1.heard)) (are_fresh (jobs ++ (number, job) ∷ [])) (first_true _ (are_fresh jobs) each) (fresh_more jobs number job fresh (second_true (not (is_asked x.1.heard)) (are_fresh jobs) each))

-- the job that was found with a number was not run
found_fresh : (jobs : List (ℕ × HostJob)) → are_fresh jobs ≡ true → (number : ℕ) (job : HostJob) → job_with jobs number ≡ Some job → is_asked job.heard ≡ false
found_fresh [] each number job q = absurd (none-some job q)
found_fresh (x ∷ jobs) each number job q = go (x.0 == number) (found_fresh jobs (second_true (not (is_asked x.1.heard)) (are_fresh jobs) each) number job) q
  where
    go : (b : Bool) → (job_with jobs number ≡ Some job → is_asked job.heard ≡ false) → cond b (Some x.1) (job_with jobs number) ≡ Some job → is_asked job.heard ≡ false
    go true rest h = subst (λ (y : HostJob). is_asked y.heard ≡ false) (same_Some x.1 job h) (not_true (is_asked x.1.heard) (first_true (not (is_asked x.1.heard)) (are_fresh jobs) each))
    go false rest h = rest h

fresh_some : (job : HostJob) → is_asked job.heard ≡ false → 0 < length (unpulled (replies_left job))
fresh_some job fresh = subst (λ (b : Bool). 0 < length (unpulled (replies_by b))) (sym fresh) (some_unpulled 65536 0)

fresh_any : (job : HostJob) → is_asked job.heard ≡ false → 0 < length (replies_left job)
fresh_any job fresh = subst (λ (b : Bool). 0 < length (replies_by b)) (sym fresh) (some_left 65536 0)

-- whatever the plan
pub may_answer : (p : PlanParts) (workers ring : ℕ) (jobs : List (ℕ × HostJob)) → are_fresh jobs ≡ true → JobsMayAnswer replies_left (run_of p workers ring jobs)
may_answer p workers ring jobs each = record {
  factories = λ n number job pulls is found. fresh_any job (found_fresh jobs each number job found);
  bodies = λ n number job pulls is found. fresh_some job (found_fresh jobs each number job found);
  after_bodies = λ n number job is found. fresh_some job (found_fresh jobs each number job found);
}

-- Jobs that were not run may answer.
use Rattle.std.proofs.Common.{◌≡◌, ℕ, ◌==◌, ◌<◌, cond, Bool, true, false, not, List, [], ◌∷◌, length, Some, sym, subst}
use Rattle.std.proofs.lemmas.Option.{none-some, same_Some}
use Rattle.plan_events.specs.Jobs.{unpulled}
use Rattle.resource_locks.specs.Plans.{PlanParts}
use Rattle.table_rule.specs.Slots.{job_with}
use Rattle.worker_pool.specs.Premises.{JobsMayAnswer}
use Rattle.worker_pool.specs.Reports.{run_of}
use Rattle.test_bodies.specs.Replies.{replies_by}
use Rattle.test_bodies.proofs.Replying.{some_left, some_unpulled}
use Rattle.test_tree.specs.Jobs.{are_fresh}
use Rattle.test_tree.proofs.Having.{first_true, second_true, not_true}

module _ {B : Type 0} (is_spent : B → Bool) (left : B → ℕ) where
  -- the job that was found with a number was not run
  found_fresh : (jobs : List (ℕ × B)) → are_fresh is_spent jobs ≡ true → (number : ℕ) (job : B) → job_with jobs number ≡ Some job → is_spent job ≡ false
  found_fresh [] each number job q = absurd (none-some job q)
  found_fresh (x ∷ jobs) each number job q = go (x.0 == number) (found_fresh jobs (second_true (not (is_spent x.1)) (are_fresh is_spent jobs) each) number job) q
    where
      go : (b : Bool) → (job_with jobs number ≡ Some job → is_spent job ≡ false) → cond b (Some x.1) (job_with jobs number) ≡ Some job → is_spent job ≡ false
      go true rest h = subst (λ (y : B). is_spent y ≡ false) (same_Some x.1 job h) (not_true (is_spent x.1) (first_true (not (is_spent x.1)) (are_fresh is_spent jobs) each))
      go false rest h = rest h

  fresh_some : (job : B) → is_spent job ≡ false → 0 < length (unpulled (replies_by (is_spent job) (left job)))
  fresh_some job fresh = subst (λ (b : Bool). 0 < length (unpulled (replies_by b (left job)))) (sym fresh) (some_unpulled 512 (left job))

  fresh_any : (job : B) → is_spent job ≡ false → 0 < length (replies_by (is_spent job) (left job))
  fresh_any job fresh = subst (λ (b : Bool). 0 < length (replies_by b (left job))) (sym fresh) (some_left 512 (left job))

  -- whatever the plan
  pub may_answer : (p : PlanParts) (workers ring : ℕ) (jobs : List (ℕ × B)) → are_fresh is_spent jobs ≡ true → JobsMayAnswer (λ b. replies_by (is_spent b) (left b)) (run_of p workers ring jobs)
  may_answer p workers ring jobs each = record {
    factories = λ n number job pulls is found. fresh_any job (found_fresh jobs each number job found);
    bodies = λ n number job pulls is found. fresh_some job (found_fresh jobs each number job found);
    after_bodies = λ n number job is found. fresh_some job (found_fresh jobs each number job found);
  }

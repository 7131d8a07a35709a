-- Jobs that pass may answer.
use Rattle.std.proofs.Common.{◌≡◌, ℕ, ◌<◌, ◌==◌, cond, Bool, true, false, List, [], ◌∷◌, length, Some, refl, sym, ap, ◌∙◌, subst, arith}
use Rattle.std.proofs.lemmas.Option.{none-some, same_Some}
use Rattle.plan_events.specs.Jobs.{unpulled, HasOutcome}
use Rattle.plan_events.specs.declared.outcome.Reply.{Reply}
use Rattle.plan_events.specs.declared.status.Status.TheVariants.{Successful}
use Rattle.resource_locks.specs.Plans.{PlanParts}
use Rattle.table_rule.specs.Slots.{job_with}
use Rattle.worker_pool.specs.Premises.{JobsMayAnswer}
use Rattle.worker_pool.specs.Reports.{run_of}
use Rattle.uses.specs.declared.threaded_run.Passing.{Passing}
use Rattle.uses.specs.Passing.{passing, replies_by, passes, AllPass}

-- one that was not run passes
pub ends_well : (is_done : Bool) (text : List ℕ) → text ≡ [] → 0 < length (unpulled (replies_by is_done)) → HasOutcome (replies_by is_done) (record { status = Successful; text = text })
ends_well true text empty low = absurd (omega (arith, low))
ends_well false text empty low = record { place = 0; reply = passing; stands = refl; no_pulls = refl; is = ap (λ (t : List ℕ). record { status = Successful; text = t }) empty }

-- the job that was found with a number may pass
found_passes : (jobs : List (ℕ × Passing)) → AllPass jobs → (number : ℕ) (job : Passing) → job_with jobs number ≡ Some job → passes job ≡ passing ∷ []
found_passes [] each number job q = absurd (none-some job q)
found_passes (x ∷ jobs) each number job q = go (x.0 == number) (found_passes jobs each.1 number job) q
  where
    go : (b : Bool) → (job_with jobs number ≡ Some job → passes job ≡ passing ∷ []) → cond b (Some x.1) (job_with jobs number) ≡ Some job → passes job ≡ passing ∷ []
    go true rest h = ap passes (sym (same_Some x.1 job h)) ∙ each.0
    go false rest h = rest h

pub may_answer : (p : PlanParts) (workers ring : ℕ) (jobs : List (ℕ × Passing)) → AllPass jobs → JobsMayAnswer passes (run_of p workers ring jobs)
may_answer p workers ring jobs each = record {
  factories = λ n number job pulls is found. subst (λ (l : List Reply). 0 < length l) (sym (found_passes jobs each number job found)) (omega arith);
  bodies = λ n number job pulls is found. subst (λ (l : List Reply). 0 < length (unpulled l)) (sym (found_passes jobs each number job found)) (omega arith);
  after_bodies = λ n number job is found. subst (λ (l : List Reply). 0 < length (unpulled l)) (sym (found_passes jobs each number job found)) (omega arith);
}

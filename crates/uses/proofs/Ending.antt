-- Jobs of any kinds that may end may answer.
use Rattle.std.proofs.Common.{◌≡◌, ◌⊎◌, inl, inr, ℕ, ◌<◌, ◌==◌, cond, Bool, true, false, List, [], ◌∷◌, length, Some, refl, sym, ap, subst, ◌∙◌, arith}
use Rattle.std.proofs.lemmas.Option.{none-some, same_Some}
use Rattle.plan_events.specs.Jobs.{unpulled, HasOutcome}
use Rattle.plan_events.specs.declared.outcome.Reply.{Reply}
use Rattle.plan_events.specs.declared.status.Status.TheVariants.{Failed}
use Rattle.resource_locks.specs.Plans.{PlanParts}
use Rattle.table_rule.specs.Slots.{job_with}
use Rattle.worker_pool.specs.Premises.{JobsMayAnswer}
use Rattle.worker_pool.specs.Reports.{run_of}
use Rattle.uses.specs.Ending.{failing, fails_by, AllEnd}
use Rattle.uses.specs.Passing.{passing}

-- one that was not run fails
pub ends_badly : (is_done : Bool) (text : List ℕ) → text ≡ [] → 0 < length (unpulled (fails_by is_done)) → HasOutcome (fails_by is_done) (record { status = Failed; text = text })
ends_badly true text empty low = absurd (omega (arith, low))
ends_badly false text empty low = record { place = 0; reply = failing; stands = refl; no_pulls = refl; is = ap (λ (t : List ℕ). record { status = Failed; text = t }) empty }

pub by_way : (a b c : List Reply) → a ≡ b → b ≡ c → a ≡ c
by_way a b c first second = first ∙ second

-- such a job may give a reply without pulls, and so a reply
some_unpulled : (replies : List Reply) → (replies ≡ passing ∷ []) ⊎ (replies ≡ failing ∷ []) → 0 < length (unpulled replies)
some_unpulled replies (inl is) = subst (λ (l : List Reply). 0 < length (unpulled l)) (sym is) (omega arith)
some_unpulled replies (inr is) = subst (λ (l : List Reply). 0 < length (unpulled l)) (sym is) (omega arith)

some : (replies : List Reply) → (replies ≡ passing ∷ []) ⊎ (replies ≡ failing ∷ []) → 0 < length replies
some replies (inl is) = subst (λ (l : List Reply). 0 < length l) (sym is) (omega arith)
some replies (inr is) = subst (λ (l : List Reply). 0 < length l) (sym is) (omega arith)

module _ {B : Type 0} (answers : B → List Reply) where
  -- the job that was found with a number
  found_ends : (jobs : List (ℕ × B)) → AllEnd answers jobs → (number : ℕ) (job : B) → job_with jobs number ≡ Some job → (answers job ≡ passing ∷ []) ⊎ (answers job ≡ failing ∷ [])
  found_ends [] each number job q = absurd (none-some job q)
  found_ends (x ∷ jobs) each number job q = go (x.0 == number) (found_ends jobs each.1 number job) q
    where
      go : (b : Bool) → (job_with jobs number ≡ Some job → (answers job ≡ passing ∷ []) ⊎ (answers job ≡ failing ∷ [])) → cond b (Some x.1) (job_with jobs number) ≡ Some job → (answers job ≡ passing ∷ []) ⊎ (answers job ≡ failing ∷ [])
      go true rest h = subst (λ (j : B). (answers j ≡ passing ∷ []) ⊎ (answers j ≡ failing ∷ [])) (same_Some x.1 job h) each.0
      go false rest h = rest h

  pub all_may_answer : (p : PlanParts) (workers ring : ℕ) (jobs : List (ℕ × B)) → AllEnd answers jobs → JobsMayAnswer answers (run_of p workers ring jobs)
  all_may_answer p workers ring jobs each = record {
    factories = λ n number job pulls is found. some (answers job) (found_ends jobs each number job found);
    bodies = λ n number job pulls is found. some_unpulled (answers job) (found_ends jobs each number job found);
    after_bodies = λ n number job is found. some_unpulled (answers job) (found_ends jobs each number job found);
  }

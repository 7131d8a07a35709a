-- Jobs that have not been asked may answer.
use Rattle.std.proofs.Common.{◌≡◌, ◌∙◌, ℕ, zero, suc, ◌<◌, ◌==◌, cond, Bool, true, false, not, nat_lt, List, [], ◌∷◌, ◌++◌, length, Option, Some, refl, sym, subst, arith}
use Rattle.std.proofs.lemmas.Bool.Decides.{nat_tests}
use Rattle.std.proofs.lemmas.Option.{none-some, same_Some}
use Rattle.plan_events.specs.Jobs.{unpulled, HasOutcome}
use Rattle.plan_events.specs.declared.outcome.Outcome.{Outcome}
use Rattle.plan_events.specs.declared.outcome.Reply.{Reply}
use Rattle.resource_locks.specs.Plans.{PlanParts}
use Rattle.table_rule.specs.Slots.{job_with}
use Rattle.worker_pool.specs.Premises.{JobsMayAnswer}
use Rattle.worker_pool.specs.Reports.{run_of}
use Rattle.test_jobs.specs.declared.acting.Actor.{Actor}
use Rattle.test_jobs.specs.declared.acting.Ends.{Ends}
use Rattle.test_jobs.specs.Acting.{reply, left_of, replies_left, AreFresh}

-- a job that was run has ended well, or badly if it was not asked
pub ends_well : (ends : Ends) (left : Option Ends) (fresh : Bool) (pulls : ℕ) → left ≡ Some ends → 0 < length (unpulled (left_of left fresh pulls)) → HasOutcome (left_of left fresh pulls) ends.well
ends_well ends left fresh pulls is = subst (λ (o : Option Ends). 0 < length (unpulled (left_of o fresh pulls)) → HasOutcome (left_of o fresh pulls) ends.well) (sym is) (go fresh pulls)
  where
    go : (f : Bool) (k : ℕ) → 0 < length (unpulled (left_of (Some ends) f k)) → HasOutcome (left_of (Some ends) f k) ends.well
    go true k low = record { place = 0; reply = reply 0 ends.well; stands = refl; no_pulls = refl; is = refl }
    go false zero low = record { place = 0; reply = reply 0 ends.well; stands = refl; no_pulls = refl; is = refl }
    go false (suc k) low =
        let more : nat_lt 0 (suc k) ≡ true = grind (arith, nat_tests) in
        let none : 0 < 0 = subst (λ (b : Bool). 0 < length (cond (not b) (reply (suc k) ends.well ∷ []) [])) more low in
        absurd (omega (arith, none))

pub ends_badly : (ends : Ends) (left : Option Ends) (fresh : Bool) (pulls : ℕ) → left ≡ Some ends → fresh ≡ true → HasOutcome (left_of left fresh pulls) ends.badly
ends_badly ends left fresh pulls is new = subst (λ (o : Option Ends). HasOutcome (left_of o fresh pulls) ends.badly) (sym is) (subst (λ (f : Bool). HasOutcome (left_of (Some ends) f pulls) ends.badly) (sym new) (record { place = 1; reply = reply 0 ends.badly; stands = refl; no_pulls = refl; is = refl }))

-- where some reply has no pulls there is a reply
some : (replies : List Reply) → 0 < length (unpulled replies) → 0 < length replies
some [] low = low
some (x ∷ replies) low = omega arith

-- what a job in a box may answer is what the job may
pub fresh_still : (a b c : List Reply) → a ≡ b → b ≡ c → 0 < length (unpulled c) → 0 < length (unpulled a)
fresh_still a b c first second low = subst (λ (l : List Reply). 0 < length (unpulled l)) (sym second ∙ sym first) low

module _ {B : Type 0} (answers : B → List Reply) where
  -- the job that was found with a number may end without being asked
  found_fresh : (jobs : List (ℕ × B)) → AreFresh answers jobs → (number : ℕ) (job : B) → job_with jobs number ≡ Some job → 0 < length (unpulled (answers job))
  found_fresh [] each number job q = absurd (none-some job q)
  found_fresh (x ∷ jobs) each number job q = go (x.0 == number) (found_fresh jobs each.1 number job) q
    where
      go : (b : Bool) → (job_with jobs number ≡ Some job → 0 < length (unpulled (answers job))) → cond b (Some x.1) (job_with jobs number) ≡ Some job → 0 < length (unpulled (answers job))
      go true rest h = subst (λ (j : B). 0 < length (unpulled (answers j))) (same_Some x.1 job h) each.0
      go false rest h = rest h

  pub may_answer : (p : PlanParts) (workers ring : ℕ) (jobs : List (ℕ × B)) → AreFresh answers jobs → JobsMayAnswer answers (run_of p workers ring jobs)
  may_answer p workers ring jobs each = record {
    factories = λ n number job pulls is found. some (answers job) (found_fresh jobs each number job found);
    bodies = λ n number job pulls is found. found_fresh jobs each number job found;
    after_bodies = λ n number job is found. found_fresh jobs each number job found;
  }

pub none_fresh : (jobs : List (ℕ × Actor)) → jobs ≡ [] → AreFresh replies_left jobs
none_fresh jobs is = subst (AreFresh replies_left) (sym is) tt

pub fresh_push : (jobs : List (ℕ × Actor)) (x : ℕ × Actor) → AreFresh replies_left jobs → 0 < length (unpulled (replies_left x.1)) → AreFresh replies_left (jobs ++ x ∷ [])
fresh_push [] x each last = (last, tt)
fresh_push (y ∷ jobs) x each last = (each.0, fresh_push jobs x each.1 last)

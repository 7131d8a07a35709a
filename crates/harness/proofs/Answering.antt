-- The jobs of bodies: each is found with the number of its body, and may answer what this may.
use Rattle.std.proofs.Common.{◌≡◌, ◌∙◌, ℕ, ◌==◌, ◌<◌, cond, Bool, true, false, List, [], ◌∷◌, map, length, Some, IfOk, Result, Ok, Err, refl, sym, ap, subst}
use Rattle.std.specs.Option.{is_some}
use Rattle.std.proofs.lemmas.Option.{none-some, same_Some}
use Rattle.descriptor.specs.Nodes.{Nodes}
use Rattle.plan_events.specs.Jobs.{unpulled}
use Rattle.plan_events.specs.declared.outcome.Reply.{Reply}
use Rattle.resource_locks.specs.Plans.{PlanParts}
use Rattle.table_rule.specs.Slots.{job_with}
use Rattle.launcher.specs.Programs.{HasJobs}
use Rattle.worker_pool.specs.Premises.{JobsMayAnswer}
use Rattle.worker_pool.specs.Reports.{run_of}

-- what follows from one thing follows of a result that is right
pub if_ok : {A E : Type 0} {P Q : A → Type 0} (result : Result A E) → IfOk result P → ((a : A) → P a → Q a) → IfOk result Q
if_ok (Ok a) is gives = gives a is
if_ok (Err e) is gives = tt

module _ {B J : Type 0} (made : B → J) where
  abbrev pub with_job : ℕ × B → ℕ × J
  with_job x = (x.0, made x.1)

  -- the job of a number, if one was found, is that of the body with the number
  record IsFound (bodies : List (ℕ × B)) (number : ℕ) (job : J) : Type 0 where
    pub body : B
    pub found : job_with bodies number ≡ Some body
    pub is : job ≡ made body

  found_made : (bodies : List (ℕ × B)) (number : ℕ) (job : J) → job_with (map with_job bodies) number ≡ Some job → IsFound bodies number job
  found_made [] number job q = absurd (none-some job q)
  found_made (x ∷ xs) number job q = go (x.0 == number) refl (found_made xs number job) q
    where
      go : (b : Bool) → (x.0 == number) ≡ b → (job_with (map with_job xs) number ≡ Some job → IsFound xs number job) → cond b (Some (made x.1)) (job_with (map with_job xs) number) ≡ Some job → IsFound (x ∷ xs) number job
      go true at rest h = record { body = x.1; found = ap (λ (c : Bool). cond c (Some x.1) (job_with xs number)) at; is = sym (same_Some (made x.1) job h) }
      go false at rest h = record { body = (rest h).body; found = ap (λ (c : Bool). cond c (Some x.1) (job_with xs number)) at ∙ (rest h).found; is = (rest h).is }

  -- there is a job where there is a body
  some_made : (bodies : List (ℕ × B)) (number : ℕ) → is_some (job_with (map with_job bodies) number) ≡ is_some (job_with bodies number)
  some_made [] number = refl
  some_made (x ∷ xs) number = go (x.0 == number) (some_made xs number)
    where
      go : (b : Bool) → is_some (job_with (map with_job xs) number) ≡ is_some (job_with xs number) → is_some (cond b (Some (made x.1)) (job_with (map with_job xs) number)) ≡ is_some (cond b (Some x.1) (job_with xs number))
      go true rest = refl
      go false rest = rest

  pub has_made : (bodies : List (ℕ × B)) (jobs : List (ℕ × J)) → jobs ≡ map with_job bodies → (t : Nodes) → HasJobs t bodies → HasJobs t jobs
  has_made bodies jobs is t has n number of_node = subst (λ (js : List (ℕ × J)). is_some (job_with js number) ≡ true) (sym is) (some_made bodies number ∙ has n number of_node)

  module _ (answers : B → List Reply) (told : J → List Reply) (same : (b : B) → told (made b) ≡ answers b) where
    any : (P : List Reply → Type 0) (job : J) (b : B) → job ≡ made b → P (answers b) → P (told job)
    any P job b is holds = subst P (sym (ap told is ∙ same b)) holds

    may_map : (p : PlanParts) (workers ring : ℕ) (bodies : List (ℕ × B)) → JobsMayAnswer answers (run_of p workers ring bodies) → JobsMayAnswer told (run_of p workers ring (map with_job bodies))
    may_map p workers ring bodies may = record {
      factories = λ n number job pulls is found. (let at = found_made bodies number job found in any (λ (l : List Reply). 0 < length l) job at.body at.is (may.factories n number at.body pulls is at.found));
      bodies = λ n number job pulls is found. (let at = found_made bodies number job found in any (λ (l : List Reply). 0 < length (unpulled l)) job at.body at.is (may.bodies n number at.body pulls is at.found));
      after_bodies = λ n number job is found. (let at = found_made bodies number job found in any (λ (l : List Reply). 0 < length (unpulled l)) job at.body at.is (may.after_bodies n number at.body is at.found));
    }

    pub may_made : (bodies : List (ℕ × B)) (jobs : List (ℕ × J)) → jobs ≡ map with_job bodies → (p : PlanParts) (workers ring : ℕ) → JobsMayAnswer answers (run_of p workers ring bodies) → JobsMayAnswer told (run_of p workers ring jobs)
    may_made bodies jobs is p workers ring may = subst (λ (js : List (ℕ × J)). JobsMayAnswer told (run_of p workers ring js)) (sym is) (may_map p workers ring bodies may)

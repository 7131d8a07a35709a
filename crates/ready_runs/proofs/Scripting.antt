-- Slot by slot a plan gets its jobs, each of which answers what the suite says.
use Rattle.std.proofs.Common.{◌≡◌, ◌∙◌, ℕ, ◌+◌, ◌<◌, not, nat_lt, cond, Bool, true, false, List, [], ◌∷◌, ◌++◌, length, Option, Some, None, refl, sym, ap, subst, arith}
use Rattle.std.specs.List.{All}
use Rattle.std.proofs.lemmas.List.Elements.{All-append, All-cons, All-nil}
use mathlib.Core.Logic.{dite}
use native.Mathlib.Decide.{ℕ_discrete}
use Rattle.std.proofs.lemmas.Option.{none-some, same_Some}
use Rattle.plan_events.specs.Jobs.{unpulled, HasOutcome}
use Rattle.plan_events.specs.declared.outcome.Reply.{Reply}
use Rattle.resource_locks.specs.Plans.{PlanParts}
use Rattle.sched_core.specs.Replies.{reply_of}
use Rattle.table_rule.specs.Slots.{slot_count, job_at, job_with}
use Rattle.table_contents.proofs.Filled.{first_counts, one_more}
use Rattle.ready_runs.specs.declared.scripted.ScriptedJob.{ScriptedJob}
use Rattle.ready_runs.specs.Scripted.{reply_left, replies_left, asked_reply, is_pulled_slot, IsScripted, AreScripted}

-- a job that was found is still found behind which another stands, and one that was put last is there
module _ {B : Type 0} where
  still_there : (jobs : List (ℕ × B)) (x : ℕ × B) (number : ℕ) → (job : B) × (job_with jobs number ≡ Some job) → (job : B) × (job_with (jobs ++ x ∷ []) number ≡ Some job)
  still_there jobs x number found = (found.0, first_counts jobs (x ∷ []) number found.0 found.1)

  now_there : (jobs : List (ℕ × B)) (number : ℕ) (job : B) → (other : B) × (job_with (jobs ++ (number, job) ∷ []) number ≡ Some other)
  now_there jobs number job = go (job_with jobs number) refl
    where
      go : (found : Option B) → job_with jobs number ≡ found → (other : B) × (job_with (jobs ++ (number, job) ∷ []) number ≡ Some other)
      go None q = (job, one_more jobs number job q)
      go (Some other) q = (other, first_counts jobs ((number, job) ∷ []) number other q)

-- the outcome of a job that was not asked for dynamic tests, or was asked for all of them
pub ran_out : (o : Option Reply) (reply : Reply) → o ≡ Some reply → 0 < length (unpulled (reply_left o)) → HasOutcome (reply_left o) reply.outcome
ran_out None reply is some = absurd (none-some reply is)
ran_out (Some r) reply is some = record { place = 0; reply = r; stands = refl; no_pulls = none r.pulls (nat_lt 0 r.pulls) refl some; is = ap (λ (x : Reply). x.outcome) (sym (same_Some r reply is)) }
  where
    none : (pulls : ℕ) (b : Bool) → nat_lt 0 pulls ≡ b → 0 < length {A = Reply} (cond (not b) (r ∷ []) []) → pulls ≡ 0
    none pulls true q low = absurd (omega (arith, low))
    none pulls false q low = grind (arith, q)

-- slot by slot
module _ (p : PlanParts) (answers : List (ℕ × Reply)) where
  pub none_scripted : (jobs : List (ℕ × ScriptedJob)) → jobs ≡ [] → AreScripted p answers 0 jobs
  none_scripted jobs is = record { each = subst (All (IsScripted p answers)) (sym is) (All-nil (IsScripted p answers)); all = λ slot number low at. absurd (omega (arith, low)) }

  pub slot_without : (i : ℕ) (jobs : List (ℕ × ScriptedJob)) → AreScripted p answers i jobs → job_at p i ≡ None → AreScripted p answers (i + 1) jobs
  slot_without i jobs so_far none = record {
    each = so_far.each;
    all = λ slot number low at. dite (ℕ_discrete slot i) (λ e. absurd (none-some number (sym none ∙ ap (job_at p) (sym e) ∙ at))) (λ ne. so_far.all slot number (omega (arith, low, ne)) at);
  }

  pub slot_with_job : (i number : ℕ) (job : ScriptedJob) (jobs : List (ℕ × ScriptedJob)) → AreScripted p answers i jobs → i < slot_count p → job_at p i ≡ Some number
      → replies_left job ≡ asked_reply (is_pulled_slot p i) (reply_of answers number) ∷ [] → AreScripted p answers (i + 1) (jobs ++ (number, job) ∷ [])
  slot_with_job i number job jobs so_far inside is answer = record {
    each = All-append (IsScripted p answers) jobs ((number, job) ∷ []) so_far.each (All-cons (IsScripted p answers) (number, job) [] (record { slot = i; inside = inside; is = is; answer = answer }) (All-nil (IsScripted p answers)));
    all = λ slot other low at. dite (ℕ_discrete slot i)
        (λ e. subst (λ (n : ℕ). (found : ScriptedJob) × (job_with (jobs ++ (number, job) ∷ []) n ≡ Some found)) (same_Some number other (sym is ∙ ap (job_at p) (sym e) ∙ at)) (now_there jobs number job))
        (λ ne. still_there jobs (number, job) other (so_far.all slot other (omega (arith, low, ne)) at));
  }

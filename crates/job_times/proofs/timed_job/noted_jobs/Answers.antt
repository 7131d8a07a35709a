-- One more job is timed, under its number.
use Rattle.std.proofs.Common.{◌≡◌, ◌∙◌, ◌++◌, ◌∷◌, [], ℕ, List, refl, ap, sym, subst, arith}
use Rattle.std.specs.List.{All}
use Rattle.std.proofs.lemmas.List.{length_push, map_push}
use Rattle.std.proofs.lemmas.List.Elements.{All-push}
use Rattle.job_times.specs.TimedJobs.{job_of, untimed}
use Rattle.job_times.specs.declared.timed_job.TimedJob.{TimedJob}
use Rattle.job_times.proofs.timed_job.noted_jobs.Goals as goal

module _ {B S : Type 0} (timed more : List (ℕ × TimedJob B S)) (number : ℕ) (job : TimedJob B S) (grown : more ≡ timed ++ (number, job) ∷ []) where
  one_more : (jobs : List (ℕ × B)) → untimed timed ≡ jobs → untimed more ≡ jobs ++ (number, job.job) ∷ []
  one_more jobs so_far = ap untimed grown ∙ (map_push job_of timed (number, job) ∙ ap (λ (l : List (ℕ × B)). l ++ (number, job.job) ∷ []) so_far)

  abbrev IsNumbered : ℕ × TimedJob B S → Type 0
  IsNumbered x = x.1.number ≡ x.0

  all_numbered : All IsNumbered timed → job.number ≡ number → All IsNumbered more
  all_numbered so_far here = subst (All IsNumbered) (sym grown) (All-push IsNumbered timed (number, job) so_far here)

pub loop-number-preserved : goal.loop-number-preserved
loop-number-preserved g c =
    let so_far = c.loop-number.invariant in
    let grown = c.push_reserved.ensures.items in
    let long = length_push c.loop-number.yielded (c.in-Some.number, c.in-Some.job) in (
      one_more c.loop-number.room.items c.push_reserved.new.self.items c.in-Some.number _ grown c.loop-number.yielded so_far.0,
      all_numbered c.loop-number.room.items c.push_reserved.new.self.items c.in-Some.number _ grown so_far.1 refl,
      omega (arith, c.push_reserved.ensures.len, so_far.2, long),
      c.push_reserved.ensures.capacity ∙ so_far.3,
    )

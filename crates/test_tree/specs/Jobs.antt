-- Trees whose bodies all have jobs, and jobs that were not run.
use Rattle.std.specs.Prelude.{◌≡◌, ◌⊎◌, ℕ, Bool, true, not, ◌&&◌, List, [], ◌∷◌, Option, Some, None}
use Rattle.std.specs.Option.{is_some}
use Rattle.descriptor.specs.Nodes.{Nodes, body_of, after_of}
use Rattle.table_rule.specs.Slots.{job_with}

module _ {B : Type 0} where
  -- each body and each after-body of the tree has a job
  abbrev pub HasJobs : Nodes → List (ℕ × B) → Type 0
  HasJobs t jobs = (n number : ℕ) → (body_of t n ≡ Some number) ⊎ (after_of t n ≡ Some number) → is_some (job_with jobs number) ≡ true

  -- whether none of these jobs, with their numbers, was run
  abbrev pub are_fresh : (B → Bool) → List (ℕ × B) → Bool
  are_fresh is_spent [] = true
  are_fresh is_spent (job ∷ jobs) = not (is_spent job.1) && are_fresh is_spent jobs

  -- whether this job, if there is one, was not run
  abbrev pub is_fresh_or_none : (B → Bool) → Option B → Bool
  is_fresh_or_none is_spent None = true
  is_fresh_or_none is_spent (Some job) = not (is_spent job)

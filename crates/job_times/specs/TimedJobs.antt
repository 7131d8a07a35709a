-- The jobs that are timed.
use Rattle.std.specs.Prelude.{ℕ, List, map}
use Rattle.job_times.specs.declared.timed_job.TimedJob.{TimedJob}

module _ {B S : Type 0} where
  -- a job without its stopwatch, and with its number
  abbrev pub job_of : ℕ × TimedJob B S → ℕ × B
  job_of x = (x.0, x.1.job)

  -- the jobs without their stopwatch, each with its number
  abbrev pub untimed : List (ℕ × TimedJob B S) → List (ℕ × B)
  untimed timed = map job_of timed

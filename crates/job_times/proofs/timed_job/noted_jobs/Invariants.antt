-- The jobs so far are timed, each under its number.
use Rattle.std.proofs.Common.{◌≡◌, length, vec_len}
use Rattle.std.specs.Prelude.{vec_capacity}
use Rattle.std.specs.List.{All}
use Rattle.job_times.specs.TimedJobs.{untimed}
use Rattle.job_times.proofs.timed_job.noted_jobs.Given as goal

abbrev pub invariant-loop-number : goal.invariant-loop-number
invariant-loop-number g l = (untimed l.room.items ≡ l.yielded) × All (λ x. x.1.number ≡ x.0) l.room.items × (vec_len l.room ≡ length l.yielded) × (vec_capacity l.room ≡ vec_capacity l.initial.room)

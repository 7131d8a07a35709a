-- The jobs so far are those that were timed.
use Rattle.std.proofs.Common.{◌≡◌, length, vec_len}
use Rattle.std.specs.Prelude.{vec_capacity}
use Rattle.job_times.specs.TimedJobs.{untimed}
use Rattle.job_times.proofs.timed_job.untimed_jobs.Given as goal

abbrev pub invariant-loop-number : goal.invariant-loop-number
invariant-loop-number g l = (l.room.items ≡ untimed l.yielded) × (vec_len l.room ≡ length l.yielded) × (vec_capacity l.room ≡ vec_capacity l.initial.room)

-- The jobs so far are those of the bodies so far.
use Rattle.std.proofs.Common.{◌≡◌}
use Rattle.harness.specs.Jobs.{jobs_by}
use Rattle.harness.proofs.job.collected.Given as goal

abbrev pub invariant-loop-number : goal.invariant-loop-number
invariant-loop-number g l = l.jobs.items ≡ jobs_by l.yielded

-- None of the jobs so far was run.
use Rattle.std.proofs.Common.{◌≡◌, true}
use Rattle.host_bodies.specs.Fresh.{are_fresh}
use Rattle.host_bodies.proofs.jobs.fresh_jobs.Given as goal

abbrev pub invariant-loop-number : goal.invariant-loop-number
invariant-loop-number l = are_fresh l.jobs.items ≡ true

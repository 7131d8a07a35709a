-- Jobs of which nothing was heard yet.
use Rattle.std.specs.Prelude.{ℕ, Bool, true, not, ◌&&◌, List, [], ◌∷◌}
use Rattle.host_bodies.specs.HostJobs.{is_asked}
use Rattle.host_bodies.specs.declared.host_job.HostJob.{HostJob}

abbrev pub are_fresh : List (ℕ × HostJob) → Bool
are_fresh [] = true
are_fresh (job ∷ jobs) = not (is_asked job.1.heard) && are_fresh jobs

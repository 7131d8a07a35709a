-- One more was not run.
use Rattle.std.proofs.Common.{◌≡◌, ℕ, List, true, false, refl, sym, subst}
use Rattle.host_bodies.specs.HostJobs.{is_asked}
use Rattle.host_bodies.specs.declared.heard.Heard.{Heard}
use Rattle.host_bodies.specs.declared.host_job.HostJob.{HostJob}
use Rattle.host_bodies.specs.Fresh.{are_fresh}
use Rattle.host_bodies.proofs.Answering.{fresh_more}
use Rattle.host_bodies.proofs.jobs.push_job.Goals as goal

pub returns : goal.returns
returns c each =
    subst (λ (jobs : List (ℕ × HostJob)). are_fresh jobs ≡ true) (sym c.in_ok-push.ensures.items)
    (fresh_more c.args.jobs.now.items c.in-Some.number c.in_ok-job.job (subst (λ (h : Heard). is_asked h ≡ false) (sym c.in_ok-job.ensures.fresh) refl) each)

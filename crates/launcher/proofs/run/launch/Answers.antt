-- What a run of these jobs hands out is a history by one reply of each.
use Rattle.launcher.proofs.JobsRan.{has_run}
use Rattle.launcher.proofs.Reporting.{unrun}
use Rattle.launcher.proofs.run.launch.Goals as goal

pub returns-in-Ok-clause-ran : goal.returns-in-Ok-clause-ran
returns-in-Ok-clause-ran g c =
    let q = c.in-Ok.ensures in
    has_run g.B.Job.answers g.B.Job.gives g.B.Job.says c.args.workers c.args.ring c.args.plan c.requires.tree c.requires.guarded c.args.jobs.items c.in-Ok.ran.events.items c.in-Ok.ran.texts q.report q.texts c.in-Ok.ran.used_jobs.items q.said c.in-Ok.ran.unused_jobs.items q.balanced

pub unrun-requires : goal.unrun-requires
unrun-requires g c = unrun c.args.plan c.args.workers c.args.ring c.args.jobs.items c.in-Err.fault.cause c.in-Err.ensures.refused c.requires.some c.requires.few c.requires.ring c.requires.all

use Rattle.host_bodies.specs.HostJobs.{is_asked}
use Rattle.test_bodies.proofs.Replying.{runs}
use Rattle.host_bodies.proofs.host_job.HostJob.keep_line.Goals as goal

pub returns-clause-outcome : goal.returns-clause-outcome
returns-clause-outcome c = runs 65536 (is_asked c.args.self.now.heard) 0 c.args.answer.outcome c.requires.sayable

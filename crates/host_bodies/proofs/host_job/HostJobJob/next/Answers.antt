use Rattle.std.proofs.Common.{refl}
use Rattle.host_bodies.specs.HostJobs.{is_asked}
use Rattle.test_bodies.proofs.Replying.{pulls_end}
use Rattle.host_bodies.proofs.host_job.HostJobJob.next.Goals as goal

pub returns-clause-pull : goal.returns-clause-pull
returns-clause-pull c = pulls_end 65536 (is_asked c.args.self.now.heard) 0 refl

-- It ends as it may.
use Rattle.uses.proofs.Ending.{ends_badly}
use Rattle.uses.proofs.boxed_jobs.FailingJob.run.Goals as goal

pub returns-clause-outcome : goal.returns-clause-outcome
returns-clause-outcome c = ends_badly c.args.self.now.is_done c.empty.result c.empty.ensures

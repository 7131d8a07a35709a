-- It ends as it may.
use Rattle.uses.proofs.Passing.{ends_well}
use Rattle.uses.proofs.threaded_run.PassingJob.run.Goals as goal

pub returns-clause-outcome : goal.returns-clause-outcome
returns-clause-outcome c = ends_well c.args.self.now.is_done c.empty.result c.empty.ensures

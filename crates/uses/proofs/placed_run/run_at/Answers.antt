-- The jobs may answer.
use Rattle.uses.proofs.Passing.{may_answer}
use Rattle.uses.proofs.placed_run.run_at.Goals as goal

pub run_placed-ran-requires-clause-jobs : goal.run_placed-ran-requires-clause-jobs
run_placed-ran-requires-clause-jobs g c κs within = may_answer c.args.plan 2 1024 c.in-Ok.jobs.items c.in-Ok.ensures

-- The jobs may answer.
use Rattle.uses.proofs.Passing.{may_answer}
use Rattle.uses.proofs.threaded_run.run_two.Goals as goal

pub run_plan-requires-clause-jobs : goal.run_plan-requires-clause-jobs
run_plan-requires-clause-jobs g c κs within = may_answer c.args.plan 4 1024 c.in-Ok.jobs.items c.in-Ok.ensures

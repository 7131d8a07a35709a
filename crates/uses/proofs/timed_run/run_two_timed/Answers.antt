-- The jobs may answer.
use Rattle.uses.proofs.Passing.{may_answer}
use Rattle.uses.proofs.timed_run.run_two_timed.Goals as goal

pub run_timed-requires-clause-jobs : goal.run_timed-requires-clause-jobs
run_timed-requires-clause-jobs g c κs within = may_answer c.args.plan 2 1024 c.in-Ok.jobs.items c.in-Ok.ensures

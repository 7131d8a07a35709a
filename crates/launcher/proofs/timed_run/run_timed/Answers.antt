-- The jobs that are timed are the caller's.
use Rattle.std.proofs.Common.{IfOk, IfErr, IsPermutation, sym}
use Rattle.table_rule.specs.Picture.{given_by, replies_of}
use Rattle.table_contents.specs.Prepared.{HasAllJobs, IsRightCount, IsRightRing}
use Rattle.run_table.specs.Balance.{IsBalanced}
use Rattle.worker_pool.specs.Premises.{JobsMayAnswer}
use Rattle.worker_pool.specs.Reports.{run_of, AreTexts, EndsAsReplied, IsLeft, IsReport, IsRefusedRun, IsToldAsGiven, IsToldAsSaid}
use Rattle.thread_pool.proofs.Carried.{carried}
use Rattle.launcher.proofs.timed_run.run_timed.Goals as goal

pub run_noted-requires-clause-jobs : goal.run_noted-requires-clause-jobs
run_noted-requires-clause-jobs g c κs within = carried c.in-Ok-timed_jobs.ensures.jobs (λ js. JobsMayAnswer g.B.Job.answers (run_of c.args.plan c.args.workers c.args.ring js)) c.requires.jobs

pub returns-in-Ok-timed_jobs-clause-report : goal.returns-in-Ok-timed_jobs-clause-report
returns-in-Ok-timed_jobs-clause-report g c =
    carried (sym c.in-Ok-timed_jobs.ensures.jobs) (λ js. IfOk c.run_noted.result (λ r. IsReport (run_of c.args.plan c.args.workers c.args.ring js) (replies_of g.B.Job.answers (run_of c.args.plan c.args.workers c.args.ring js)) r.events.items)) c.run_noted.ensures.report

pub returns-in-Ok-timed_jobs-clause-expected : goal.returns-in-Ok-timed_jobs-clause-expected
returns-in-Ok-timed_jobs-clause-expected g c =
    carried (sym c.in-Ok-timed_jobs.ensures.jobs) (λ js. IfOk c.run_noted.result (λ r. EndsAsReplied c.args.plan (replies_of g.B.Job.answers (run_of c.args.plan c.args.workers c.args.ring js)) c.args.workers r.events.items)) c.run_noted.ensures.expected

pub returns-in-Ok-timed_jobs-clause-texts : goal.returns-in-Ok-timed_jobs-clause-texts
returns-in-Ok-timed_jobs-clause-texts g c =
    carried (sym c.in-Ok-timed_jobs.ensures.jobs) (λ js. IfOk c.run_noted.result (λ r. AreTexts c.args.plan (replies_of g.B.Job.answers (run_of c.args.plan c.args.workers c.args.ring js)) r.events.items r.texts)) c.run_noted.ensures.texts

pub returns-in-Ok-timed_jobs-clause-given : goal.returns-in-Ok-timed_jobs-clause-given
returns-in-Ok-timed_jobs-clause-given g c =
    carried (sym c.in-Ok-timed_jobs.ensures.jobs) (λ js. IfOk c.run_noted.result (λ r. IsToldAsGiven (given_by g.B.Job.gives (run_of c.args.plan c.args.workers c.args.ring js)) (replies_of g.B.Job.answers (run_of c.args.plan c.args.workers c.args.ring js)) c.args.plan c.args.workers r.events.items r.texts)) c.run_noted.ensures.given

pub returns-in-Ok-timed_jobs-clause-said : goal.returns-in-Ok-timed_jobs-clause-said
returns-in-Ok-timed_jobs-clause-said g c =
    carried (sym c.in-Ok-timed_jobs.ensures.jobs)
    (λ js. IfOk c.run_noted.result (λ r. IsToldAsSaid g.B.Job.says (given_by g.B.Job.gives (run_of c.args.plan c.args.workers c.args.ring js)) (replies_of g.B.Job.answers (run_of c.args.plan c.args.workers c.args.ring js)) c.args.plan c.args.workers r.events.items r.texts r.used_jobs.items)) c.run_noted.ensures.said

pub returns-in-Ok-timed_jobs-clause-left : goal.returns-in-Ok-timed_jobs-clause-left
returns-in-Ok-timed_jobs-clause-left g c =
    carried (sym c.in-Ok-timed_jobs.ensures.jobs)
    (λ js. IfOk c.run_noted.result (λ r. IsLeft (replies_of g.B.Job.answers (run_of c.args.plan c.args.workers c.args.ring js)) (run_of c.args.plan c.args.workers c.args.ring js) r.events.items r.unused_jobs.items)) c.run_noted.ensures.left

pub returns-in-Ok-timed_jobs-clause-balanced : goal.returns-in-Ok-timed_jobs-clause-balanced
returns-in-Ok-timed_jobs-clause-balanced g c = carried (sym c.in-Ok-timed_jobs.ensures.jobs) (λ js. IfOk c.run_noted.result (λ r. IsBalanced c.args.plan js r.events.items r.unused_jobs.items)) c.run_noted.ensures.balanced

pub returns-in-Ok-timed_jobs-clause-accepted : goal.returns-in-Ok-timed_jobs-clause-accepted
returns-in-Ok-timed_jobs-clause-accepted g c = carried (sym c.in-Ok-timed_jobs.ensures.jobs) (λ js. IfOk c.run_noted.result (λ r. IsRightCount c.args.workers × IsRightRing c.args.ring × HasAllJobs c.args.plan js)) c.run_noted.ensures.accepted

pub returns-in-Ok-timed_jobs-clause-refused : goal.returns-in-Ok-timed_jobs-clause-refused
returns-in-Ok-timed_jobs-clause-refused g c = carried (sym c.in-Ok-timed_jobs.ensures.jobs) (λ js. IfErr c.run_noted.result (λ f. IsRefusedRun c.args.plan c.args.workers c.args.ring js f.cause)) c.run_noted.ensures.refused

pub returns-in-Ok-timed_jobs-clause-jobs_back : goal.returns-in-Ok-timed_jobs-clause-jobs_back
returns-in-Ok-timed_jobs-clause-jobs_back g c = carried (sym c.in-Ok-timed_jobs.ensures.jobs) (λ js. IfErr c.run_noted.result (λ f. IsPermutation js f.jobs.items)) c.run_noted.ensures.jobs_back

pub returns-in-Err-clause-refused : goal.returns-in-Err-clause-refused
returns-in-Err-clause-refused g c = carried (sym c.in-Err.ensures.back) (λ v. IsRefusedRun c.args.plan c.args.workers c.args.ring v.items c.without_memory-in-Err.result.cause) c.without_memory-in-Err.ensures.refused

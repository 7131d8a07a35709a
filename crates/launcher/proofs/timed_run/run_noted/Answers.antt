-- What is said of the jobs that are timed is said of the caller's.
use Rattle.std.proofs.Common.{◌≡◌, map, IsPermutation, arith}
use Rattle.std.proofs.lemmas.List.Sorted.{IsPermutation-map, length_permutation}
use Rattle.listeners.specs.Listeners.{tellings_of}
use Rattle.table_rule.specs.Moments.{KeepsApart}
use Rattle.table_rule.specs.Picture.{given_by, replies_of}
use Rattle.run_table.specs.Balance.{IsBalanced}
use Rattle.job_times.specs.TimedJobs.{job_of, untimed}
use Rattle.worker_pool.specs.Reports.{run_of, AreParts, AreTexts, EndsAsReplied, IsLeft, IsReport, IsRefusedRun, IsToldAsGiven, IsToldAsSaid}
use Rattle.listeners.specs.Observing.{HasSeenMore}
use Rattle.thread_pool.proofs.Carried.{carried}
use Rattle.launcher.proofs.Renamed.{all_there, balanced, few_left, left_over, may_answer, refused, replied, reported, texts_are, told_given, told_said}
use Rattle.launcher.proofs.timed_run.run_noted.Goals as goal

pub run_placed-requires-clause-jobs : goal.run_placed-requires-clause-jobs
run_placed-requires-clause-jobs g c κs within = may_answer (λ t. t.job) g.B.Job.answers c.args.plan c.args.workers c.args.ring c.args.timed.items c.requires.jobs

pub untimed_report-requires-clause-room : goal.untimed_report-requires-clause-room
untimed_report-requires-clause-room g c = (let few = few_left (λ t. t.job) c.args.plan c.args.timed.items c.in-Ok.report.unused_jobs.items c.in-Ok.report.events.items c.in-Ok.ensures.balanced in omega (arith, few, c.requires.room))

pub untimed_fault-requires-clause-room : goal.untimed_fault-requires-clause-room
untimed_fault-requires-clause-room g c = (let long = length_permutation c.args.timed.items c.in-Err.fault.jobs.items c.in-Err.ensures.jobs_back in omega (arith, long, c.requires.room))

pub returns-in-Ok-clause-plan : goal.returns-in-Ok-clause-plan
returns-in-Ok-clause-plan g c = carried c.untimed_report.ensures.same (λ r. r.plan ≡ c.args.plan) c.in-Ok.ensures.plan

pub returns-in-Ok-clause-report : goal.returns-in-Ok-clause-report
returns-in-Ok-clause-report g c =
    let key = run_of c.args.plan c.args.workers c.args.ring (untimed c.args.timed.items) in
    carried c.untimed_report.ensures.same (λ r. IsReport key (replies_of g.B.Job.answers key) r.events.items)
    (reported (λ t. t.job) g.B.Job.answers c.args.plan c.args.workers c.args.ring c.args.timed.items c.in-Ok.report.events.items c.in-Ok.ensures.report)

pub returns-in-Ok-clause-apart : goal.returns-in-Ok-clause-apart
returns-in-Ok-clause-apart g c = carried c.untimed_report.ensures.same (λ r. KeepsApart c.args.plan r.events.items) c.in-Ok.ensures.apart

pub returns-in-Ok-clause-expected : goal.returns-in-Ok-clause-expected
returns-in-Ok-clause-expected g c =
    let key = run_of c.args.plan c.args.workers c.args.ring (untimed c.args.timed.items) in
    carried c.untimed_report.ensures.same (λ r. EndsAsReplied c.args.plan (replies_of g.B.Job.answers key) c.args.workers r.events.items)
    (replied (λ t. t.job) g.B.Job.answers c.args.plan c.args.workers c.args.ring c.args.timed.items c.in-Ok.report.events.items c.in-Ok.ensures.expected)

pub returns-in-Ok-clause-mine : goal.returns-in-Ok-clause-mine
returns-in-Ok-clause-mine g c = carried c.untimed_report.ensures.same (λ r. AreParts c.args.workers r.events.items (map (λ l. l.items) r.mine.items)) c.in-Ok.ensures.mine

pub returns-in-Ok-clause-texts : goal.returns-in-Ok-clause-texts
returns-in-Ok-clause-texts g c =
    let key = run_of c.args.plan c.args.workers c.args.ring (untimed c.args.timed.items) in
    carried c.untimed_report.ensures.same (λ r. AreTexts c.args.plan (replies_of g.B.Job.answers key) r.events.items r.texts)
    (texts_are (λ t. t.job) g.B.Job.answers c.args.plan c.args.workers c.args.ring c.args.timed.items c.in-Ok.report.events.items c.in-Ok.report.texts c.in-Ok.ensures.texts)

pub returns-in-Ok-clause-given : goal.returns-in-Ok-clause-given
returns-in-Ok-clause-given g c =
    let key = run_of c.args.plan c.args.workers c.args.ring (untimed c.args.timed.items) in
    carried c.untimed_report.ensures.same (λ r. IsToldAsGiven (given_by g.B.Job.gives key) (replies_of g.B.Job.answers key) c.args.plan c.args.workers r.events.items r.texts)
    (told_given (λ t. t.job) g.B.Job.answers c.args.plan c.args.workers c.args.ring c.args.timed.items g.B.Job.gives c.in-Ok.report.events.items c.in-Ok.report.texts c.in-Ok.ensures.given)

pub untimed_report-requires-clause-used_room : goal.untimed_report-requires-clause-used_room
untimed_report-requires-clause-used_room g c = (let few = c.in-Ok.ensures.said.few in omega (arith, few, c.requires.used_room))

pub returns-in-Ok-clause-said : goal.returns-in-Ok-clause-said
returns-in-Ok-clause-said g c =
    let key = run_of c.args.plan c.args.workers c.args.ring (untimed c.args.timed.items) in
    carried c.untimed_report.ensures.same (λ r. IsToldAsSaid g.B.Job.says (given_by g.B.Job.gives key) (replies_of g.B.Job.answers key) c.args.plan c.args.workers r.events.items r.texts c.untimed_report.result.used_jobs.items)
    (carried c.untimed_report.ensures.used (λ js. IsToldAsSaid g.B.Job.says (given_by g.B.Job.gives key) (replies_of g.B.Job.answers key) c.args.plan c.args.workers c.in-Ok.report.events.items c.in-Ok.report.texts js)
    (told_said (λ t. t.job) g.B.Job.answers c.args.plan c.args.workers c.args.ring c.args.timed.items g.B.Job.gives g.B.Job.says c.in-Ok.report.events.items c.in-Ok.report.texts c.in-Ok.report.used_jobs.items c.in-Ok.ensures.said))

pub returns-in-Ok-clause-left : goal.returns-in-Ok-clause-left
returns-in-Ok-clause-left g c =
    let key = run_of c.args.plan c.args.workers c.args.ring (untimed c.args.timed.items) in
    carried c.untimed_report.ensures.same (λ r. IsLeft (replies_of g.B.Job.answers key) key r.events.items c.untimed_report.result.unused_jobs.items)
    (carried c.untimed_report.ensures.jobs (λ js. IsLeft (replies_of g.B.Job.answers key) key c.in-Ok.report.events.items js)
    (left_over (λ t. t.job) g.B.Job.answers c.args.plan c.args.workers c.args.ring c.args.timed.items c.in-Ok.report.events.items c.in-Ok.report.unused_jobs.items c.in-Ok.ensures.left))

pub returns-in-Ok-clause-balanced : goal.returns-in-Ok-clause-balanced
returns-in-Ok-clause-balanced g c =
    let jobs = untimed c.args.timed.items in
    carried c.untimed_report.ensures.same (λ r. IsBalanced c.args.plan jobs r.events.items c.untimed_report.result.unused_jobs.items)
    (carried c.untimed_report.ensures.jobs (λ js. IsBalanced c.args.plan jobs c.in-Ok.report.events.items js)
    (balanced (λ t. t.job) c.args.plan c.args.timed.items c.in-Ok.report.unused_jobs.items c.in-Ok.report.events.items c.in-Ok.ensures.balanced))

pub returns-in-Ok-clause-seen : goal.returns-in-Ok-clause-seen
returns-in-Ok-clause-seen g c = carried c.untimed_report.ensures.same (λ r. HasSeenMore g.O.Observer.saw c.args.plan (tellings_of r.texts r.events.items) c.args.observer.now c.run_placed.new.observer) c.in-Ok.ensures.seen

pub returns-in-Ok-clause-accepted : goal.returns-in-Ok-clause-accepted
returns-in-Ok-clause-accepted g c = (c.in-Ok.ensures.accepted.0, c.in-Ok.ensures.accepted.1, all_there (λ t. t.job) c.args.plan c.args.timed.items c.in-Ok.ensures.accepted.2)

pub returns-in-Err-clause-refused : goal.returns-in-Err-clause-refused
returns-in-Err-clause-refused g c =
    let jobs = untimed c.args.timed.items in
    carried c.untimed_fault.ensures.cause (λ cause. IsRefusedRun c.args.plan c.args.workers c.args.ring jobs cause)
    (refused (λ t. t.job) c.args.plan c.args.workers c.args.ring c.args.timed.items c.in-Err.fault.cause c.in-Err.ensures.refused)

pub returns-in-Err-clause-jobs_back : goal.returns-in-Err-clause-jobs_back
returns-in-Err-clause-jobs_back g c = carried c.untimed_fault.ensures.jobs (λ js. IsPermutation (untimed c.args.timed.items) js) (IsPermutation-map job_of c.args.timed.items c.in-Err.fault.jobs.items c.in-Err.ensures.jobs_back)

-- What is done with the plan of what is selected is what the launch comes to.
use Rattle.std.proofs.Common.{◌∙◌, [], inr}
use Rattle.job_times.specs.Timings.{times_of}
use Rattle.launch_options.specs.Asked.{asked_by}
use Rattle.ready_runs.proofs.ProgramRefusals.{same_refusal}
use Rattle.ready_runs.specs.ReadyPrograms.{program_parts, program_refusal}
use Rattle.launcher.specs.PlannedLaunches.{DoesJobs}
use Rattle.launcher.proofs.PlannedLaunches.{planned_launch}
use Rattle.launcher.proofs.Selected.{no_job_missing}
use Rattle.launcher.proofs.program_launch.launch_program.Goals as goal

pub launch_planned-answer-requires-clause-all : goal.launch_planned-answer-requires-clause-all
launch_planned-answer-requires-clause-all g c κs within =
    no_job_missing (asked_by c.args.options.now) (program_parts c.args.program.tree c.args.program.properties) c.in-Ok.ready.settings c.in-Ok.ready.plan c.args.program.jobs.items c.len.ensures.tree c.in-Ok.ensures.ready c.requires.may.all

pub launch_planned-answer-requires-clause-jobs : goal.launch_planned-answer-requires-clause-jobs
launch_planned-answer-requires-clause-jobs g c κs within = c.requires.may.may_answer c.in-Ok.ready.plan c.in-Ok.ready.settings.workers c.args.options.now.ring

pub returns-in-Ok-clause-launched : goal.returns-in-Ok-clause-launched
returns-in-Ok-clause-launched g c =
    let ready = c.in-Ok.ready in
    let done = c.launch_planned-answer in
    let asked = asked_by c.args.options.now in
    let parts = program_parts c.args.program.tree c.args.program.properties in
    let old = g.W.Write.contents c.args.writer.now in
    let new = g.W.Write.contents done.new.writer in
    inr
    (planned_launch asked old new (program_refusal asked parts) parts (DoesJobs g.B.Job.answers g.B.Job.gives g.B.Job.says asked (times_of done.new.times.timings) c.args.program.jobs.items old new) ready.settings ready.plan []
    (same_refusal asked parts c.in-Ok.ensures.options ∙ c.in-Ok.ensures.ready.accepted) c.in-Ok.ensures.ready ready.is_missing c.in-Ok.ensures.missing done.result.ran done.result.answer c.answer_unless.result done.ensures.does c.answer_unless.ensures)

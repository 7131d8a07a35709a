-- What is done with the plan of what is selected is what the launch comes to.
use Rattle.std.proofs.Common.{inr, subst, ℕ, List}
use Rattle.plan_events.specs.declared.outcome.Reply.{Reply}
use Rattle.job_times.specs.Timings.{times_of}
use Rattle.launch_options.specs.Asked.{asked_by}
use Rattle.suite_text.specs.Suites.{suite_parts}
use Rattle.ready_runs.specs.Ready.{answers_of, run_refusal}
use Rattle.launcher.specs.SuiteLaunches.{DoesSuite}
use Rattle.launcher.proofs.PlannedLaunches.{planned_launch}
use Rattle.launcher.proofs.suite_launch.launch_suite.Goals as goal

pub returns-in-Ok-clause-launched : goal.returns-in-Ok-clause-launched
returns-in-Ok-clause-launched g c =
    let ready = c.in-Ok.ready in
    let is = c.in-Ok.ensures.ready in
    let done = c.launch_ready-answer in
    let asked = asked_by c.args.options.now in
    let times = times_of done.new.times.timings in
    let suite = suite_parts c.args.suite in
    let old = g.W.Write.contents c.args.writer.now in
    let new = g.W.Write.contents done.new.writer in
    inr
    (planned_launch asked old new (run_refusal asked suite) suite (λ settings p. DoesSuite asked times old new settings p (answers_of suite.scripts) asked.replay) ready.settings ready.plan ready.answers is.accepted is ready.is_missing c.in-Ok.ensures.missing done.result.ran done.result.answer c.answer_unless.result
    (subst (λ (a : List (ℕ × Reply)). DoesSuite asked times old new ready.settings ready.plan a asked.replay done.result.ran done.result.answer) is.replies_are done.ensures.does) c.answer_unless.ensures)

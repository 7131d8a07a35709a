-- The jobs are those that a run asks for, and their run is one of what the suite says.
use Rattle.job_times.specs.Timings.{times_of}
use Rattle.launch_options.specs.Asked.{asked_by}
use Rattle.launcher.proofs.Scripting.{all_there, may_answer}
use Rattle.launcher.proofs.SuiteRan.{same_runs, same_sees, suite_launched}
use Rattle.launcher.proofs.suite_launch.launch_scripted.Goals as goal

pub launch_shown-launched-requires-clause-tree : goal.launch_shown-launched-requires-clause-tree
launch_shown-launched-requires-clause-tree g c κs within = c.tree.ensures.tree

pub launch_shown-launched-requires-clause-jobs : goal.launch_shown-launched-requires-clause-jobs
launch_shown-launched-requires-clause-jobs g c κs within =
    may_answer c.args.plan c.tree.ensures.tree c.args.answers.now c.in-Ok.jobs.items c.in-Ok.ensures c.args.settings.now.workers c.args.options.now.ring

pub launch_shown-launched-requires-clause-all : goal.launch_shown-launched-requires-clause-all
launch_shown-launched-requires-clause-all g c κs within = all_there c.args.plan c.tree.ensures.tree c.args.answers.now c.in-Ok.jobs.items c.in-Ok.ensures

pub returns-in-Ok-clause-runs : goal.returns-in-Ok-clause-runs
returns-in-Ok-clause-runs g c =
    let run = c.launch_shown-launched in
    let asked = asked_by c.args.options.now in
    let times = times_of run.new.live.feed.timings.now in
    let old = g.W.Write.contents c.args.live.now.feed.writer.now in
    let new = g.W.Write.contents run.new.live.feed.writer.now in
    same_runs asked times old new c.args.settings.now c.args.plan c.args.answers.now run.result.ran c.without_jobs.result.ran run.result.answer c.without_jobs.result.answer c.without_jobs.ensures.same c.without_jobs.ensures.answer
    (suite_launched asked c.args.settings.now c.args.plan c.tree.ensures.tree c.requires.guarded c.args.answers.now c.in-Ok.jobs.items c.in-Ok.ensures c.tree.ensures.plan c.requires.few c.requires.threads _ times old new run.result.ran run.result.answer run.ensures.launched)

pub returns-in-Ok-clause-seen : goal.returns-in-Ok-clause-seen
returns-in-Ok-clause-seen g c = same_sees g.V.Observer.saw c.args.live.now.observer.now c.launch_shown-launched.new.live.observer.now c.launch_shown-launched.result.ran c.without_jobs.result.ran c.without_jobs.ensures.same c.launch_shown-launched.ensures.seen

-- No suite is named, and the tests are launched; or one is, and that is refused.
use Rattle.std.proofs.Common.{map, refl, sym, subst}
use Rattle.launch_options.specs.Given.{maybe_behind}
use Rattle.launch_options.specs.ReportTexts.{parts_of}
use Rattle.ready_runs.specs.ReadyPrograms.{program_parts}
use Rattle.command_line.specs.OwnTests.{ConductsTests}
use Rattle.command_line.proofs.own_tests.conduct_tests.Goals as goal

pub returns-in-None : goal.returns-in-None
returns-in-None g c =
    subst (λ suite. ConductsTests (g.B.Job.answers) (g.B.Job.gives) (g.B.Job.says) (program_parts c.args.program.tree c.args.program.properties) c.args.program.jobs.items (g.V.Observer.saw) c.args.observer.now c.run_launch.new.observer (g.W.Write.contents) (g.E.Write.contents) (g.K.ReportFiles.deeds) (g.R.Read.remaining)
    c.args.is_terminal c.args.launch.options (maybe_behind suite) (map parts_of c.args.launch.reports.items) c.args.reader.now c.run_launch.new.reader c.args.writer.now c.run_launch.new.writer c.args.errors.now c.run_launch.new.errors c.args.files.now c.run_launch.new.files c.run_launch.result)
    (sym c.in-None.is) c.run_launch.ensures

pub returns-in-Some : goal.returns-in-Some
returns-in-Some g c =
    subst (λ suite. ConductsTests (g.B.Job.answers) (g.B.Job.gives) (g.B.Job.says) (program_parts c.args.program.tree c.args.program.properties) c.args.program.jobs.items (g.V.Observer.saw) c.args.observer.now c.args.observer.now (g.W.Write.contents) (g.E.Write.contents) (g.K.ReportFiles.deeds) (g.R.Read.remaining)
    c.args.is_terminal c.args.launch.options (maybe_behind suite) (map parts_of c.args.launch.reports.items) c.args.reader.now c.args.reader.now c.args.writer.now c.close_run.new.writer c.args.errors.now c.close_run.new.errors c.args.files.now c.args.files.now c.close_run.result)
    (sym c.in-Some.is) (record { unread = refl; unseen = refl; untouched = refl; closes = c.close_run.ensures.closed })

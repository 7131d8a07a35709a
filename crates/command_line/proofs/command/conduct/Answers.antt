-- A suite is conducted, or the tests of a program.
use Rattle.std.proofs.Common.{map, subst, sym}
use Rattle.launch_options.specs.Given.{maybe_behind}
use Rattle.launch_options.specs.ReportTexts.{parts_of}
use Rattle.launcher.specs.Sources.{MayLaunch}
use Rattle.command_line.specs.Conducting.{Conducts}
use Rattle.command_line.proofs.command.conduct.Goals as goal

pub conduct_tests-requires-clause-may : goal.conduct_tests-requires-clause-may
conduct_tests-requires-clause-may g c κs within = subst (λ source. MayLaunch g.B.Job.answers source) c.in-Program.is c.requires.may

pub returns-in-Text : goal.returns-in-Text
returns-in-Text g c =
    let run = c.conduct_suite in
    subst (λ source. Conducts g.B.Job.answers g.B.Job.gives g.B.Job.says (g.R.Read.remaining) (g.V.Observer.saw) (g.W.Write.contents) (g.E.Write.contents) (g.K.ReportFiles.deeds) c.args.is_terminal c.args.facts.now source c.args.launch.options (maybe_behind c.args.launch.suite) (map parts_of c.args.launch.reports.items)
    c.args.reader.now run.new.reader c.args.observer.now run.new.observer c.args.writer.now run.new.writer c.args.errors.now run.new.errors c.args.files.now run.new.files run.result) (sym c.in-Text.is) run.ensures

pub returns-in-Program : goal.returns-in-Program
returns-in-Program g c =
    let run = c.conduct_tests in
    subst (λ source. Conducts g.B.Job.answers g.B.Job.gives g.B.Job.says (g.R.Read.remaining) (g.V.Observer.saw) (g.W.Write.contents) (g.E.Write.contents) (g.K.ReportFiles.deeds) c.args.is_terminal c.args.facts.now source c.args.launch.options (maybe_behind c.args.launch.suite) (map parts_of c.args.launch.reports.items)
    c.args.reader.now run.new.reader c.args.observer.now run.new.observer c.args.writer.now run.new.writer c.args.errors.now run.new.errors c.args.files.now run.new.files run.result) (sym c.in-Program.is) run.ensures

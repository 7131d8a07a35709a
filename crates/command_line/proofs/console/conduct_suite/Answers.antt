-- The suite is that of the file that is named, or what is left of the reader.
use Rattle.std.proofs.Common.{◌≡◌, Some, None, map, ap, subst, sym}
use Rattle.launch_options.specs.Asked.{asked_by}
use Rattle.launch_options.specs.Given.{maybe_behind}
use Rattle.launch_options.specs.ReportTexts.{parts_of}
use Rattle.command_line.specs.Consoles.{ConductsSuite, IsSourceRun}
use Rattle.command_line.specs.Runs.{waiting_said}
use Rattle.command_line.proofs.console.conduct_suite.Goals as goal

pub returns-in-Some : goal.returns-in-Some
returns-in-Some g c =
    subst (λ suite. ConductsSuite g.V.Observer.saw c.args.observer.now c.run_file.new.observer (g.W.Write.contents) (g.E.Write.contents) (g.K.ReportFiles.deeds) (g.R.Read.remaining) c.args.is_terminal c.args.facts.now.is_typed c.args.launch.options (maybe_behind suite) (map parts_of c.args.launch.reports.items)
    c.args.reader.now c.run_file.new.reader c.args.writer.now c.run_file.new.writer c.args.errors.now c.run_file.new.errors c.args.files.now c.run_file.new.files c.run_file.result)
    (sym c.in-Some.is) (c.run_file.ensures.same, c.run_file.ensures.run)

-- where no file is named the reader that is left may be any
of_reader : {A R : Type 0} (Conducts : R → A → Type 0) {left : R} {suite none : A} → suite ≡ none → Conducts left none → Conducts left suite
of_reader Conducts {left = left} is = subst (Conducts left) (sym is)

pub returns-in-None : goal.returns-in-None
returns-in-None g c =
    of_reader (λ left suite. ConductsSuite g.V.Observer.saw c.args.observer.now c.run_source.new.observer (g.W.Write.contents) (g.E.Write.contents) (g.K.ReportFiles.deeds) (g.R.Read.remaining) c.args.is_terminal c.args.facts.now.is_typed c.args.launch.options (maybe_behind suite) (map parts_of c.args.launch.reports.items)
    c.args.reader.now left c.args.writer.now c.run_source.new.writer c.args.errors.now c.run_source.new.errors c.args.files.now c.run_source.new.files c.run_source.result)
    c.in-None.is
    (subst (λ suite. IsSourceRun g.V.Observer.saw c.args.observer.now c.run_source.new.observer (g.W.Write.contents) (g.E.Write.contents) c.args.is_terminal (waiting_said c.args.facts.now.is_typed (maybe_behind suite)) (asked_by c.args.launch.options) (map parts_of c.args.launch.reports.items) (g.R.Read.remaining c.args.reader.now)
    c.args.writer.now c.run_source.new.writer c.args.errors.now c.run_source.new.errors (g.K.ReportFiles.deeds c.args.files.now) (g.K.ReportFiles.deeds c.run_source.new.files) c.run_source.result)
    c.in-None.is c.run_source.ensures)

-- Nothing is said of what is waited for, since a file is named.
use Rattle.std.proofs.Common.{ℕ, List, Option, Some, inl, inr, map, refl, subst, sym}
use Rattle.launch_options.specs.Asked.{asked_by}
use Rattle.launch_options.specs.Given.{maybe_behind}
use Rattle.launch_options.specs.ReportTexts.{parts_of}
use Rattle.command_line.specs.Consoles.{IsSourceRun}
use Rattle.command_line.proofs.Running.{named_waits}
use Rattle.command_line.proofs.console.run_file.Goals as goal

pub returns-in-Ok-Some-clause-run : goal.returns-in-Ok-Some-clause-run
returns-in-Ok-Some-clause-run g c = inl (
  c.as_slice.result.now,
  subst (λ (waited : Option (List ℕ)). IsSourceRun g.V.Observer.saw c.args.observer.now c.run_source.new.observer (g.W.Write.contents) (g.E.Write.contents) c.args.is_terminal waited (asked_by c.args.launch.options) (map parts_of c.args.launch.reports.items) (Some c.as_slice.result.now) c.args.writer.now c.run_source.new.writer c.args.errors.now c.run_source.new.errors
      (g.K.ReportFiles.deeds c.args.files.now) (g.K.ReportFiles.deeds c.run_source.new.files) c.run_source.result)
      (sym (named_waits c.args.facts.now.is_typed (maybe_behind c.args.launch.suite) c.args.name.now c.requires.named)) c.run_source.ensures,
)

-- Both who watch have seen what was seen by the pair.
use Rattle.std.proofs.Common.{map, rules, string_bytes}
use Rattle.std.specs.Prelude.{option_map}
use Rattle.launch_options.specs.Asked.{asked_by}
use Rattle.launch_options.specs.ReportTexts.{parts_of}
use Rattle.launcher.proofs.Showing.{carried}
use Rattle.launcher.specs.Launches.{Sees}
use Rattle.command_line.specs.TimedLaunches.{IsTimedLaunch}
use Rattle.launcher.specs.Sources.{Launches}
use Rattle.command_line.proofs.meanwhile.launch_beside.Goals as goal

pub returns-clause-watched : goal.returns-clause-watched
returns-clause-watched g c =
    let run = c.launch_paired in
    carried {a = run.new.pair.observer.now} (search rules) (λ v. Sees g.D.Observer.saw c.args.observer.now v run.result.ran) run.ensures.watched

pub returns-clause-launched : goal.returns-clause-launched
returns-clause-launched g c =
    let run = c.launch_paired in
    carried {a = run.new.pair.other.now} (search rules)
    (λ v. IsTimedLaunch (Launches g.B.Job.answers g.B.Job.gives g.B.Job.says c.args.source) g.V.Observer.saw c.args.other.now v (asked_by c.args.launch.now.options) (map parts_of c.args.launch.now.reports.items) (g.R.Read.remaining c.args.reader.now) (g.R.Read.remaining run.new.reader) (g.W.Write.contents c.args.writer.now) (g.W.Write.contents run.new.writer) (g.K.ReportFiles.deeds c.args.files.now) (g.K.ReportFiles.deeds run.new.files)
    run.result.ran run.result.answer (option_map string_bytes run.new.slowest))
    run.ensures.launched

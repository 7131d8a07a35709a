-- Both who watch are still the same, and have seen the run.
use Rattle.std.proofs.Common.{◌≡◌, map, subst}
use Rattle.job_times.specs.Timings.{times_asked, times_of}
use Rattle.launch_options.specs.Asked.{asked_by}
use Rattle.launch_options.specs.ReportTexts.{parts_of}
use Rattle.launcher.specs.FiledLaunches.{IsFiledLaunch}
use Rattle.command_line.proofs.Watched.{pair_other, pair_same, pair_same_other, pair_watched}
use Rattle.launcher.specs.Sources.{Launches}
use Rattle.command_line.proofs.meanwhile.launch_paired.Goals as goal

pub returns-clause-same : goal.returns-clause-same
returns-clause-same g c = pair_same g.D.Observer.saw g.V.Observer.saw c.args.pair.now c.launch_filed.new.observer c.launch_filed.result.ran c.launch_filed.ensures.seen

pub returns-clause-same_other : goal.returns-clause-same_other
returns-clause-same_other g c = pair_same_other g.D.Observer.saw g.V.Observer.saw c.args.pair.now c.launch_filed.new.observer c.launch_filed.result.ran c.launch_filed.ensures.seen

pub returns-clause-watched : goal.returns-clause-watched
returns-clause-watched g c = pair_watched g.D.Observer.saw g.V.Observer.saw c.args.pair.now c.launch_filed.new.observer c.launch_filed.result.ran c.launch_filed.ensures.seen

pub returns-clause-launched : goal.returns-clause-launched
returns-clause-launched g c =
    let run = c.launch_filed in
    let asked = asked_by c.args.launch.now.options in
    let times = times_of run.new.times.timings in
    let before = g.R.Read.remaining c.args.reader.now in
    let left = g.R.Read.remaining run.new.reader in
    let old = g.W.Write.contents c.args.writer.now in
    let new = g.W.Write.contents run.new.writer in
    record {
      times = times;
      filed =
          subst (λ reports. IsFiledLaunch (Launches g.B.Job.answers g.B.Job.gives g.B.Job.says c.args.source asked times before left old new) asked.theme (times_asked asked.times times) (map parts_of reports) (g.K.ReportFiles.deeds c.args.files.now) (g.K.ReportFiles.deeds run.new.files) ((left ≡ before) × (new ≡ old)) run.result.ran run.result.answer)
          c.as_slice-wanted.ensures.value run.ensures.filed;
      seen = pair_other g.D.Observer.saw g.V.Observer.saw c.args.pair.now run.new.observer run.result.ran run.ensures.seen;
      listed = run.ensures.slowest;
    }

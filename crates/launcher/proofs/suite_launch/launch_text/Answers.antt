-- What was read is launched, or refused.
use Rattle.std.proofs.Common.{refl}
use Rattle.job_times.specs.Timings.{times_of}
use Rattle.launch_options.specs.Asked.{asked_by}
use Rattle.ready_runs.proofs.SuiteRead.{if_known}
use Rattle.launcher.proofs.SuiteReading.{launch_read, launch_unread, takes_launch, takes_none}
use Rattle.launcher.proofs.suite_launch.launch_text.Goals as goal

pub returns-in-Ok-clause-launched : goal.returns-in-Ok-clause-launched
returns-in-Ok-clause-launched g c =
    let run = c.launch_suite in
    let asked = asked_by c.args.options.now in
    let times = times_of run.new.times.timings in
    let old = g.W.Write.contents c.args.writer.now in
    let new = g.W.Write.contents run.new.writer in
    record {
      exact = if_known (g.R.Read.remaining c.args.reader.now) (λ bytes read. launch_read asked times old new c.in-Ok.suite _ run.result.ran run.result.answer read c.in-Ok.ensures.bare run.ensures.launched) c.in-Ok.ensures.exact;
      reads = takes_launch asked times old new c.args.options.now.most_nodes (g.R.Read.remaining c.args.reader.now) _ c.in-Ok.suite run.result.ran run.result.answer c.in-Ok.ensures.bare run.ensures.launched c.in-Ok.ensures.reads;
    }

pub returns-in-Err-clause-launched : goal.returns-in-Err-clause-launched
returns-in-Err-clause-launched g c =
    let asked = asked_by c.args.options.now in
    let times = times_of c.args.times.now.timings in
    let old = g.W.Write.contents c.args.writer.now in
    record {
      exact = if_known (g.R.Read.remaining c.args.reader.now) (λ bytes fails. launch_unread asked times old old c.in-Err.fault _ c.idle.result.ran c.idle.result.answer c.idle.ensures.answer c.idle.ensures.none refl fails) c.in-Err.ensures.exact;
      reads = takes_none asked times old old c.args.options.now.most_nodes (g.R.Read.remaining c.args.reader.now) _ c.in-Err.fault c.idle.result.ran c.idle.result.answer c.idle.ensures.answer c.idle.ensures.none refl c.in-Err.ensures.reads;
    }

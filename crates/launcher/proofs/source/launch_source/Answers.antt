-- The suite that is left of the reader is launched, or the program.
use Rattle.std.proofs.Common.{subst, sym}
use Rattle.job_times.specs.Timings.{times_of}
use Rattle.launch_options.specs.Asked.{asked_by}
use Rattle.launcher.specs.Sources.{Launches, MayLaunch}
use Rattle.launcher.proofs.source.launch_source.Goals as goal

pub launch_program-requires-clause-may : goal.launch_program-requires-clause-may
launch_program-requires-clause-may g c κs within = subst (λ source. MayLaunch g.B.Job.answers source) c.in-Program.is c.requires.may

pub returns-in-Text-clause-launched : goal.returns-in-Text-clause-launched
returns-in-Text-clause-launched g c =
    let run = c.launch_text in
    subst (λ source. Launches g.B.Job.answers g.B.Job.gives g.B.Job.says source (asked_by c.args.options.now) (times_of run.new.times.timings) (g.R.Read.remaining c.args.reader.now) (g.R.Read.remaining run.new.reader) (g.W.Write.contents c.args.writer.now) (g.W.Write.contents run.new.writer) run.result.ran run.result.answer) (sym c.in-Text.is)
    run.ensures.launched

pub returns-in-Program-clause-launched : goal.returns-in-Program-clause-launched
returns-in-Program-clause-launched g c =
    let run = c.launch_program in
    let left = g.R.Read.remaining c.args.reader.now in
    subst (λ source. Launches g.B.Job.answers g.B.Job.gives g.B.Job.says source (asked_by c.args.options.now) (times_of run.new.times.timings) left left (g.W.Write.contents c.args.writer.now) (g.W.Write.contents run.new.writer) run.result.ran run.result.answer) (sym c.in-Program.is) run.ensures.launched

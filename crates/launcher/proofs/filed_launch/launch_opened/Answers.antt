-- What was launched, and what was done with the files, is a launch whose reports are filed of its run.
use Rattle.std.proofs.Common.{◌∙◌, ap, length, map}
use Rattle.job_times.specs.Timings.{times_asked, times_of}
use Rattle.launch_options.specs.Asked.{asked_by}
use Rattle.launch_options.specs.ReportTexts.{parts_of}
use Rattle.report_files.specs.FiledReports.{answer_with}
use Rattle.launcher.specs.FiledLaunches.{AreFiledBy}
use Rattle.launcher.specs.Sources.{Launches}
use Rattle.launcher.proofs.LaunchFiling.{filed_by, left_alone, many_wanted, opened_with}
use Rattle.launcher.proofs.filed_launch.launch_opened.Goals as goal

pub returns-clause-filed : goal.returns-clause-filed
returns-clause-filed g c account opening =
    let done = c.launch_source-launched in
    let over = done.result in
    let ended = c.end_all-lost.ensures in
    let contents = g.K.File.Write.contents in
    let theme = c.args.options.now.theme in
    let times = times_asked c.args.options.now.times (times_of done.new.times.timings) in
    let ws = map parts_of c.args.wanted.now in
    let b = c.args.reports.now in
    let n = c.report_launched.new.reports in
    let many = many_wanted c.args.wanted.now (length b) c.requires.all in
    let reported = c.report_launched.ensures.reported in
    let same = c.report_launched.ensures.many in
    opened_with contents
    (Launches g.B.Job.answers g.B.Job.gives g.B.Job.says c.args.source (asked_by c.args.options.now) (times_of done.new.times.timings) (g.R.Read.remaining c.args.reader.now) (g.R.Read.remaining done.new.reader) (g.W.Write.contents c.args.writer.now) (g.W.Write.contents done.new.writer) over.ran)
    (AreFiledBy theme times ws over.ran) ws account (g.K.ReportFiles.deeds c.args.files.now) (g.K.ReportFiles.deeds c.end_all-lost.new.files) b n over.answer c.answer_with.result ended.0 many c.requires.opened opening done.ensures.launched
    (filed_by contents theme times ws b n ended.0 many same c.requires.opened ended.2 over.ran over.answer reported) (left_alone contents theme times ws b n ended.0 many same c.requires.opened ended.2 over.ran over.answer reported) same ended.1 ended.2 (c.answer_with.ensures ∙ ap (answer_with over.answer) ended.3)

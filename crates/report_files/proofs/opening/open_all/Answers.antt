-- Those before the first that could not be opened are given up.
use Rattle.std.proofs.Common.{◌∙◌, map, subst}
use Rattle.launch_options.specs.ReportTexts.{parts_of}
use Rattle.report_files.specs.FiledReports.{AreEnded}
use Rattle.report_files.proofs.Filing.{unopened}
use Rattle.report_files.proofs.opening.open_all.Goals as goal

pub returns-clause-refused : goal.returns-clause-refused
returns-clause-refused g c =
    let contents = g.K.File.Write.contents in
    let deeds = g.K.ReportFiles.deeds in
    let wanted = map parts_of c.args.wanted.now in
    let ended = c.end_all.ensures in
    unopened contents c.args.wanted.now (deeds c.args.files.now) c.open_each.new.reports.items (deeds c.open_each.new.files) (deeds c.end_all.new.files) ended.0 c.len.result c.open_each.ensures.opened c.open_each.ensures.did (c.open_each.ensures.some c.if-open_each.false) (c.len.ensures ∙ c.open_each.new.reports.ok.0) ended.1
    (subst (λ l. AreEnded contents l wanted ended.0) c.as_slice.ensures.value ended.2)

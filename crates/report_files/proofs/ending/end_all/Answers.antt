-- The next report is ended behind those before.
use Rattle.std.proofs.Common.{[], arith, refl}
use Rattle.report_files.proofs.Filing.{does_nothing, ended_at}
use Rattle.report_files.proofs.ending.end_all.Goals as goal

pub loop-index-init : goal.loop-index-init
loop-index-init g c = ([], does_nothing (g.K.ReportFiles.deeds c.args.files.now), tt, refl)

pub loop-index-preserved : goal.loop-index-preserved
loop-index-preserved g c =
    ended_at g.K.File.Write.contents g.K.ReportFiles.deeds c.args.wanted.now c.args.files.now c.loop-index.files c.end_report-kept.new.files c.args.reports.now c.loop-index.index c.loop-index.lost _ c.index-reports-index.result c.end_report-kept.result c.lost_with-lost.result c.loop-index.invariant c.loop-index-test.true
    (omega (arith, c.loop-index-test.true, c.requires)) c.index-reports-index.is c.end_report-kept.ensures c.lost_with-lost.ensures

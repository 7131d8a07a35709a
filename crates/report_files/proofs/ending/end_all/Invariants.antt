-- The reports so far are ended.
use Rattle.std.proofs.Common.{◌≡◌, List, map, take}
use Rattle.launch_options.specs.ReportTexts.{parts_of}
use Rattle.report_files.specs.Deeds.{Deed, Does}
use Rattle.report_files.specs.FiledReports.{AreEnded, first_lost}
use Rattle.report_files.proofs.ending.end_all.Given as goal

abbrev pub invariant-loop-index : goal.invariant-loop-index
invariant-loop-index g l = (ends : List Deed) × Does (g.K.ReportFiles.deeds l.fn.files) (g.K.ReportFiles.deeds l.files) ends
    × AreEnded g.K.File.Write.contents (take l.index l.reports) (map parts_of l.wanted) ends × (l.lost ≡ first_lost 1 ends)

-- The reports so far are opened.
use Rattle.std.proofs.Common.{◌≡◌, ◌≤◌, length, map, take, vec_len, vec_capacity}
use Rattle.launch_options.specs.ReportTexts.{parts_of}
use Rattle.report_files.specs.Deeds.{Does}
use Rattle.report_files.specs.FiledReports.{AreOpened, openings}
use Rattle.report_files.proofs.opening.open_each.Given as goal

abbrev pub invariant-loop-index : goal.invariant-loop-index
invariant-loop-index g l = record {
  len : vec_len l.reports ≡ l.index;
  room : length l.wanted ≤ vec_capacity l.reports;
  many : length l.reports.items ≡ l.index;
  opened : AreOpened g.K.File.Write.contents l.reports.items (map parts_of l.wanted);
  did : Does (g.K.ReportFiles.deeds l.fn.files) (g.K.ReportFiles.deeds l.files) (openings (take l.index (map parts_of l.wanted)));
}

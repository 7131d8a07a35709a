-- So far each report is written.
use Rattle.job_times.specs.Timings.{times_of}
use Rattle.listeners.proofs.Stepping.{AreStepped}
use Rattle.report_files.specs.Reports.{IsReported}
use Rattle.report_files.proofs.run_report.write_each.Given as goal

abbrev pub invariant-loop-index : goal.invariant-loop-index
invariant-loop-index g l = AreStepped (IsReported g.F.Write.contents l.theme (record { plan = l.plan; events = l.events; texts = l.texts }) (times_of l.timings)) l.index l.fn.reports l.reports

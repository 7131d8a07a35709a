-- The next report is written.
use Rattle.std.proofs.Common.{get_or, ap, arith}
use Rattle.std.proofs.lemmas.Grind.{common_steps}
use Rattle.listeners.proofs.Stepping.{stepped_all, stepped_more, stepped_none}
use Rattle.report_files.proofs.run_report.write_each.Goals as goal

pub loop-index-init : goal.loop-index-init
loop-index-init g c = stepped_none _ c.args.reports.now

pub loop-index-preserved : goal.loop-index-preserved
loop-index-preserved g c = stepped_more _ c.args.reports.now c.loop-index.index c.loop-index.reports _ c.write_one.new.report c.loop-index.invariant (grind (arith, common_steps)) (ap (get_or c.loop-index.reports c.loop-index.index) c.index-reports-index.is) c.write_one.ensures

pub returns-clause-many : goal.returns-clause-many
returns-clause-many g c = c.loop-index.invariant.same

pub returns-clause-each : goal.returns-clause-each
returns-clause-each g c = stepped_all _ c.args.reports.now c.loop-index.index c.loop-index.reports (grind (arith, common_steps)) c.loop-index.invariant

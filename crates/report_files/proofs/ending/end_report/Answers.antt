-- What was done with the report's file.
use Rattle.std.proofs.Common.{ap, refl}
use Rattle.report_files.specs.Deeds.Deed.{GivenUp, Kept, NotKept}
use Rattle.report_files.specs.FiledReports.{is_whole}
use Rattle.report_files.proofs.Filing.{unwhole}
use Rattle.report_files.proofs.ending.end_report.Goals as goal

pub returns-in-Ok : goal.returns-in-Ok
returns-in-Ok g c = (Kept c.args.asked.file.now (g.K.File.Write.contents c.args.report.now.file), c.in-Ok.ensures.kept, (refl, ap is_whole c.in-Whole.is, refl), refl)

pub returns-in-Err : goal.returns-in-Err
returns-in-Err g c = (NotKept c.args.asked.file.now, c.in-Err.ensures.refused, (refl, ap is_whole c.in-Whole.is), refl)

pub returns-in-Waiting : goal.returns-in-Waiting
returns-in-Waiting g c = (GivenUp c.args.asked.file.now, c.give_up.ensures, (refl, unwhole c.args.report.now.outcome c.in-Waiting.is), refl)

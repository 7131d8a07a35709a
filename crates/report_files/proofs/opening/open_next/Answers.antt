-- The file that was opened is the next report's.
use Rattle.std.proofs.Common.{refl}
use Rattle.report_files.proofs.opening.open_next.Goals as goal

pub returns-in-Ok-clause-opened : goal.returns-in-Ok-clause-opened
returns-in-Ok-clause-opened g c = (_, record { form = refl; empty = c.in-Ok.ensures.empty; outcome = refl }, c.push_reserved.ensures.items, c.in-Ok.ensures.opened)

pub returns-in-Err-clause-opened : goal.returns-in-Err-clause-opened
returns-in-Err-clause-opened g c = (refl, c.in-Err.ensures.refused)

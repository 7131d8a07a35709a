-- The search proves it. Written out, it spares a wrong body the printing of what is left to show.
use Rattle.std.proofs.Common.{rules}
use Rattle.sched_core.proofs.text.last_job.Goals as goal

pub returns-else-is_successful : goal.returns-else-is_successful
returns-else-is_successful c = search rules

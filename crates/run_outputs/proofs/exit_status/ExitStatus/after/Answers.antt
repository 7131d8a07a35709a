-- The search proves it. Written out, it spares a wrong body the printing of what is left to show.
use Rattle.std.proofs.Common.{rules}
use Rattle.run_outputs.proofs.exit_status.ExitStatus.after.Goals as goal

pub returns-in-Err : goal.returns-in-Err
returns-in-Err c = search rules

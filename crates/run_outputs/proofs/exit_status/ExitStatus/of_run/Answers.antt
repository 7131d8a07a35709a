-- The search proves it. Written out, it spares a wrong body the printing of what is left to show.
use Rattle.std.proofs.Common.{rules}
use Rattle.run_outputs.proofs.exit_status.ExitStatus.of_run.Goals as goal

pub returns-else-has_failure : goal.returns-else-has_failure
returns-else-has_failure c = search rules

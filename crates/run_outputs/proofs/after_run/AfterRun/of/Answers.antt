-- The search proves it. Written out, it spares a wrong body the printing of what is left to show.
use Rattle.std.proofs.Common.{rules}
use Rattle.run_outputs.proofs.after_run.AfterRun.of.Goals as goal

pub returns-clause-line : goal.returns-clause-line
returns-clause-line c = search rules

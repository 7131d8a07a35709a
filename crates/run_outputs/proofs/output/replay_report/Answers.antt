-- The search proves it. Written out, it spares a wrong body the printing of what is left to show.
use Rattle.std.proofs.Common.{rules}
use Rattle.run_outputs.proofs.output.replay_report.Goals as goal

pub returns : goal.returns
returns c = search rules

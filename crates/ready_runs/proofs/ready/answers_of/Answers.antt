-- The search proves it. Written out, it spares a wrong body the printing of what is left to show.
use Rattle.std.proofs.Common.{arith}
use Rattle.std.proofs.lemmas.Grind.{common_steps}
use Rattle.ready_runs.proofs.ready.answers_of.Goals as goal

pub loop-script-preserved : goal.loop-script-preserved
loop-script-preserved c = grind (arith, common_steps)

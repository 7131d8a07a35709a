-- The search proves it. Written out, it spares a wrong body the printing of what is left to show.
use Rattle.std.proofs.Common.{arith}
use Rattle.std.proofs.lemmas.Grind.{common_steps}
use Rattle.run_results.proofs.tree_drawing.push_end.Goals as goal

pub returns-in_default-status : goal.returns-in_default-status
returns-in_default-status c = grind (arith, common_steps)

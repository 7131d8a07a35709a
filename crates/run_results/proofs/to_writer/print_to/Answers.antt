-- A write of what is left adds to what was sent.
use Rattle.std.proofs.Common.{arith}
use Rattle.std.proofs.lemmas.Grind.{common_steps}
use Rattle.run_results.proofs.Sending.{send_more}
use Rattle.run_results.proofs.to_writer.print_to.Goals as goal

pub loop-sent-preserved : goal.loop-sent-preserved
loop-sent-preserved g c = send_more _ _ _ _ _ _ c.loop-sent.invariant.0 c.in-Ok.ensures.bound c.loop-sent.invariant.1 c.in-Ok.ensures.bytes

pub returns : goal.returns
returns g c = grind (arith, common_steps)

-- The second is behind all of the first, or the first is cut short.
use Rattle.command_line.proofs.GoneOut.{behind_all}
use Rattle.command_line.proofs.closing.both_go_out.Goals as goal

pub returns-then-goes_out : goal.returns-then-goes_out
returns-then-goes_out g c = behind_all c.goes_out-then-goes_out.result _ _ _ c.args.front.now c.args.behind.now c.if-goes_out.ensures c.goes_out-then-goes_out.ensures

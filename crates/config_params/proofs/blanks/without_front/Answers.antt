use Rattle.std.proofs.Common.{◌∙◌, rules}
use Rattle.config_params.proofs.Ends.{front_step, front_done}
use Rattle.config_params.proofs.blanks.without_front.Goals as goal

pub loop-shorter-preserved : goal.loop-shorter-preserved
loop-shorter-preserved c =
    let h = c.in-Some.ensures in
    (front_step c.args.blanks h.0 c.loop-shorter.left.now c.in-Some.shorter.now h.1 h.2 ∙ c.loop-shorter.invariant.0, search rules)

pub returns : goal.returns
returns c = front_done c.args.blanks c.loop-shorter.left.now c.in_default.ensures ∙ c.loop-shorter.invariant.0

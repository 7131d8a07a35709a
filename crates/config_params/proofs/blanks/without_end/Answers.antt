use Rattle.std.proofs.Common.{◌∙◌, rules}
use Rattle.config_params.proofs.Ends.{end_step, end_done}
use Rattle.config_params.proofs.blanks.without_end.Goals as goal

pub loop-shorter-preserved : goal.loop-shorter-preserved
loop-shorter-preserved c =
    let h = c.in-Some.ensures in
    (end_step c.args.blanks h.0 c.loop-shorter.left.now c.in-Some.shorter.now h.1 h.2 ∙ c.loop-shorter.invariant.0, search rules)

pub returns : goal.returns
returns c = end_done c.args.blanks c.loop-shorter.left.now c.in_default.ensures ∙ c.loop-shorter.invariant.0

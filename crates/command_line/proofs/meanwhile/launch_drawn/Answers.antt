-- What was drawn behind what the progress was given stands on the terminal.
use Rattle.std.proofs.Common.{rules, subst}
use Rattle.launcher.proofs.Showing.{carried}
use Rattle.live.specs.Terminals.{IsDrawnBehind}
use Rattle.command_line.proofs.meanwhile.launch_drawn.Goals as goal

pub returns-clause-draws : goal.returns-clause-draws
returns-clause-draws g c =
    let contents = g.E.Write.contents in
    let drawn = subst (λ e. IsDrawnBehind (contents e) (contents c.launch_followed.new.progress.terminal.now)) c.new-progress.ensures.terminal c.launch_followed.ensures.draws in
    carried {a = c.launch_followed.new.progress.terminal.now} (search rules) (λ e. IsDrawnBehind (contents c.args.errors.now) (contents e)) drawn

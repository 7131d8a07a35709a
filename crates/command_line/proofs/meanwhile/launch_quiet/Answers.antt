-- What was named behind what the writer was given with stands there.
use Rattle.std.proofs.Common.{rules, subst}
use Rattle.launcher.proofs.Showing.{carried}
use Rattle.live.specs.SlowNames.{AreNamedBehind}
use Rattle.command_line.proofs.meanwhile.launch_quiet.Goals as goal

pub returns-clause-names : goal.returns-clause-names
returns-clause-names g c =
    let contents = g.E.Write.contents in
    let named = subst (λ e. AreNamedBehind (contents e) (contents c.launch_named.new.lines.errors.now)) c.new-lines.ensures.errors c.launch_named.ensures.names in
    carried {a = c.launch_named.new.lines.errors.now} (search rules) (λ e. AreNamedBehind (contents c.args.errors.now) (contents e)) named

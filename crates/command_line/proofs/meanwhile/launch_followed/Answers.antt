-- One that draws was shown the run, and did nothing but draw.
use Rattle.command_line.proofs.Watched.{drawn_behind_it, drawn_by_run}
use Rattle.command_line.proofs.meanwhile.launch_followed.Goals as goal

pub returns-clause-same : goal.returns-clause-same
returns-clause-same g c = (drawn_by_run g.E.Write.contents c.args.progress.now c.launch_beside.new.observer c.launch_beside.result.ran c.launch_beside.ensures.watched).same

pub returns-clause-draws : goal.returns-clause-draws
returns-clause-draws g c =
    drawn_behind_it g.E.Write.contents c.args.progress.now c.launch_beside.new.observer (drawn_by_run g.E.Write.contents c.args.progress.now c.launch_beside.new.observer c.launch_beside.result.ran c.launch_beside.ensures.watched)

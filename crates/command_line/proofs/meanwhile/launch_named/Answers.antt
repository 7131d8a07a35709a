-- One that names slow tests was shown the run, and did nothing but name them.
use Rattle.command_line.proofs.Watched.{named_behind_it, named_by_run}
use Rattle.command_line.proofs.meanwhile.launch_named.Goals as goal

pub returns-clause-same : goal.returns-clause-same
returns-clause-same g c = (named_by_run g.E.Write.contents c.args.lines.now c.launch_beside.new.observer c.launch_beside.result.ran c.launch_beside.ensures.watched).1.same

pub returns-clause-names : goal.returns-clause-names
returns-clause-names g c = named_behind_it g.E.Write.contents c.args.lines.now c.launch_beside.new.observer (named_by_run g.E.Write.contents c.args.lines.now c.launch_beside.new.observer c.launch_beside.result.ran c.launch_beside.ensures.watched)

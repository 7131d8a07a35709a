-- A look goes on: the worker's own list is as it was.
use Rattle.std.proofs.Common.{◌≡◌, ◌<◌}
use Rattle.descriptor.specs.Nodes.{size}
use Rattle.scheduling.specs.declared.task.Task.TheVariants.{Free}
use Rattle.workers.proofs.Going.{looked}
use Rattle.workers.proofs.scan.look_at.Goals as goal

pub returns-clause-goes_on : goal.returns-clause-goes_on
returns-clause-goes_on g c =
    looked (c.args.seat.now.task ≡ Free → c.args.node < size c.args.seat.now.seat.me.0.about.plan.tree → ⊥) c.look_at.result c.args.node c.args.seat.now.seat c.look_at.new.self.seat c.look_at.ensures.same c.look_at.ensures.done c.look_at.ensures.refused

-- A look that does not find the run over goes on.
use Rattle.std.proofs.Common.{◌≡◌, ◌<◌, rules}
use Rattle.descriptor.specs.Nodes.{size}
use Rattle.scheduling.specs.declared.task.Task.TheVariants.{Free}
use Rattle.workers.proofs.Going.{looked}
use Rattle.workers.proofs.scan.is_over.Goals as goal

pub returns-in_default : goal.returns-in_default
returns-in_default g c = record {
  goes_on = looked (c.args.seat.now.task ≡ Free → 0 < size c.args.seat.now.seat.me.0.about.plan.tree → ⊥) c.look_at.result 0 c.args.seat.now.seat c.look_at.new.self.seat c.look_at.ensures.same c.look_at.ensures.done c.look_at.ensures.refused;
  over = λ q. cc;
  task = search rules;
  hand = search rules;
}

-- One node less is left of the circle.
use Rattle.std.proofs.Common.{◌∙◌, arith}
use Rattle.descriptor.specs.Nodes.{size}
use Rattle.node_sources.proofs.Circles.{first_inside, others_inside}
use Rattle.workers.proofs.Going.{goes_itself}
use Rattle.workers.proofs.Outgoing.{then_goes}
use Rattle.workers.proofs.scan.take_next.Goals as goal

pub overflow_cast-number : goal.overflow_cast-number
overflow_cast-number g c =
    let low = first_inside (size c.args.table.now.plan.tree) c.in-Some.number c.loop-number.circle c.next.new.self c.in-Some.ensures.some c.loop-number.invariant.inside in
    omega (arith, low, c.requires.few)

pub loop-number-preserved : goal.loop-number-preserved
loop-number-preserved g c = record {
  table = record { same = c.take.ensures.goes_on.same.table ∙ c.loop-number.invariant.table.same; about = c.take.ensures.goes_on.same.about ∙ c.loop-number.invariant.table.about };
  goes_on = then_goes _ _ _ c.loop-number.invariant.goes_on c.take.ensures.goes_on;
  free = c.take.ensures.free c.if-take.false;
  empty = c.take.ensures.empty;
  inside = others_inside (size c.args.table.now.plan.tree) c.in-Some.number c.loop-number.circle c.next.new.self c.in-Some.ensures.some c.loop-number.invariant.inside;
}

pub loop-number-init : goal.loop-number-init
loop-number-init g c = record { table = c.requires.table; goes_on = goes_itself _; free = c.requires.free; empty = c.requires.empty; inside = c.requires.inside }

pub returns-then-take-clause-goes_on : goal.returns-then-take-clause-goes_on
returns-then-take-clause-goes_on g c = then_goes _ _ _ c.loop-number.invariant.goes_on c.take.ensures.goes_on

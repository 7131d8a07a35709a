use Rattle.std.proofs.Common.{sym, subst}
use Rattle.resource_locks.specs.Plans.{PlanParts}
use Rattle.descriptor.specs.Nodes.{IsTree}
use Rattle.run_table.proofs.Facts.{plan_is}
use Rattle.workers.proofs.Tests.{owned_steady}
use Rattle.workers.proofs.pulling.take_test.Goals as goal

pub returns-clause-steady : goal.returns-clause-steady
returns-clause-steady g c = λ factory asked it.
    let old = c.args.seat.now in
    let plan = plan_is _ _ _ old.seat c.args.table.now.fitting c.requires.table in
    let tree : IsTree old.seat.me.0.about.plan.tree = subst (λ (p : PlanParts). IsTree p.tree) (sym plan) c.requires.tree in
    let d = c.in-Ok.ensures.done in
    owned_steady old.seat c.own.new.self.seat factory asked old.task old.hand c.args.test old.at_work.seat_is c.own.ensures.same.about it tree d.0 d.1 d.2 d.3.worker_is

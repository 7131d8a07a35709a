use Rattle.std.proofs.Common.{◌<◌, ap, ◌∙◌, sym, subst}
use Rattle.std.proofs.lemmas.Option.{same_Some}
use Rattle.scheduling.specs.declared.seat.Hand.{Hand}
use Rattle.table_rule.specs.Slots.{told_by, made_of}
use Rattle.resource_locks.specs.Plans.{PlanParts}
use Rattle.descriptor.specs.Nodes.{IsTree}
use Rattle.scheduling.specs.declared.seat.Seat.{Seat}
use Rattle.table_rule.specs.Plays.{worker}
use Rattle.run_table.proofs.Facts.{plan_is}
use Rattle.run_table.specs.Seats.{seated}
use Rattle.workers.specs.Inside.Steady.{IsPulled}
use Rattle.event_history.specs.Plans.{spare_count}
use Rattle.workers.proofs.Tests.{spare_due, added_steady}
use Rattle.workers.proofs.pulling.add_test.Goals as goal

pub add_child_due-requires-clause-due : goal.add_child_due-requires-clause-due
add_child_due-requires-clause-due g c =
    let old = c.args.seat.now in
    let plan = plan_is _ _ _ old.seat c.args.table.now.fitting c.requires.table in
    let tree : IsTree old.seat.me.0.about.plan.tree = subst (λ (p : PlanParts). IsTree p.tree) (sym plan) c.requires.tree in
    let p = old.seat.me.0.about.plan in
    let made = (worker old.seat.me.0).slots in
    spare_due p c.args.factory c.args.asked (seated old.task old.hand) made (subst (λ (s : Seat). IsPulled p c.args.factory c.args.asked s made) old.at_work.seat_is c.requires.steady.hand) c.requires.free tree
    (subst (λ (q : PlanParts). c.args.asked < spare_count q c.args.factory) (sym plan) c.requires.more) c.requires.idle

pub returns-clause-steady : goal.returns-clause-steady
returns-clause-steady g c =
    let old = c.args.seat.now in
    let plan = plan_is _ _ _ old.seat c.args.table.now.fitting c.requires.table in
    let tree : IsTree old.seat.me.0.about.plan.tree = subst (λ (p : PlanParts). IsTree p.tree) (sym plan) c.requires.tree in
    let d = c.add_child_due.ensures.done in
    added_steady old.seat c.add_child_due.new.self.seat c.args.factory c.args.asked old.task old.hand d.0 d.1 old.at_work.seat_is c.add_child_due.ensures.same.about c.requires.steady tree d.2.0 d.2.1 d.2.3 d.3.worker_is

-- the factory's job is out
pub add_child_due-requires-clause-unheard : goal.add_child_due-requires-clause-unheard
add_child_due-requires-clause-unheard g c =
    let old = c.args.seat.now in
    let p = old.seat.me.0.about.plan in
    let made = (worker old.seat.me.0).slots in
    let kept : IsPulled p c.args.factory c.args.asked (seated old.task old.hand) made = subst (λ (s : Seat). IsPulled p c.args.factory c.args.asked s made) old.at_work.seat_is c.requires.steady.hand in
    λ h is. ap told_by (ap (made_of made) (ap (λ (y : Hand). y.factory) (same_Some h kept.hand (sym is ∙ kept.held)) ∙ kept.is_it) ∙ kept.left)

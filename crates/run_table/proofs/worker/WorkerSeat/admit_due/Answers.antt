-- The node that is due is offered.
use Rattle.table_rule.specs.Plays.{offer_due}
use Rattle.run_table.proofs.Facts.{ready_seat_in}
use Rattle.std.proofs.Common.{sym, ap, ◌∙◌}
use Rattle.scheduling.specs.declared.task.Task.TheVariants.{Opens}
use Rattle.scheduling.specs.State.{subject}
use Rattle.run_table.proofs.Facts.{plan_is}
use Rattle.run_table.proofs.worker.WorkerSeat.admit_due.Goals as goal

pub due_offer-requires-clause-offers : goal.due_offer-requires-clause-offers
due_offer-requires-clause-offers g c =
    let self = c.args.self.now in
    let it = self.at_work in
    let fit = c.args.table.now.fitting in
    let there = ready_seat_in _ _ _ self.seat fit c.requires.table it self.within in
    λ n d e. there.inside n (ap subject (sym c.ready_task-task.ensures ∙ e))

pub due_offer-requires-clause-admits : goal.due_offer-requires-clause-admits
due_offer-requires-clause-admits g c =
    let self = c.args.self.now in
    let it = self.at_work in
    let fit = c.args.table.now.fitting in
    let there = ready_seat_in _ _ _ self.seat fit c.requires.table it self.within in
    λ n k d e f. there.admits n k (sym c.ready_task-task.ensures ∙ (e ∙ ap (Opens n) f))

pub returns-clause-done : goal.returns-clause-done
returns-clause-done g c =
    let self = c.args.self.now in
    let it = self.at_work in
    let fit = c.args.table.now.fitting in
    (_, (λ k. offer_due (plan_is _ _ _ self.seat fit c.requires.table k) (it.number_is k) (sym c.ready_task-task.ensures k)) ∙ c.in-Some.ensures.some, c.offer.ensures.done)

pub unreachable-requires : goal.unreachable-requires
unreachable-requires g c =
    let self = c.args.self.now in
    let it = self.at_work in
    let fit = c.args.table.now.fitting in
    c.requires.due ((λ k. offer_due (plan_is _ _ _ self.seat fit c.requires.table k) (it.number_is k) (sym c.ready_task-task.ensures k)) ∙ c.in_default.ensures.none)

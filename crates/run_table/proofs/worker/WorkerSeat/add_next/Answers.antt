-- The factory's counter is one more, and its next dynamic test is to be registered.
use Rattle.scheduling.specs.declared.task.Opening.TheVariants.{Registering}
use Rattle.scheduling.specs.Choices.{next_spare}
use Rattle.table_rule.specs.Plays.{add_child_tells}
use Rattle.table_rule.specs.Words.{counter_place}
use Rattle.table_rule.proofs.Allowed.{add_child_allows}
use Rattle.run_table.proofs.Asks.{add_asks}
use Rattle.std.proofs.Common.{sym, ap, ◌∙◌, refl, arith}
use Rattle.scheduling.specs.declared.task.Task.TheVariants.{Opens}
use Rattle.run_table.proofs.Facts.{works, within_now, plan_is, seat_in}
use Rattle.run_table.proofs.worker.WorkerSeat.add_next.Goals as goal

pub fetch_add-requires : goal.fetch_add-requires
fetch_add-requires g c =
    let self = c.args.self.now in
    let it = self.at_work in
    let fit = c.args.table.now.fitting in
    let here = seat_in _ _ _ self.seat fit c.requires.table it self.within in
    let held = c.args.held.now in
    let due = c.requires.due in
    let plan = plan_is _ _ _ self.seat fit c.requires.table in
    let spare = sym (ap (λ p. next_spare p held.factory held.registered) fit.plan) ∙ (sym (ap (λ p. next_spare p held.factory held.registered) plan) ∙ due.3) in
    let low = here.hand held due.1 in (
      c.requires.table.same,
      omega (arith, fit.words, low, c.counter_at.ensures),
      add_asks _ _ _ _ _ add_child_tells _ _ _ _ (c.counter_at.ensures ∙ ap (λ p. counter_place p held.factory) fit.plan) refl
          (λ told. add_child_allows told _ _ _ _ _ it.place it.no_slot held c.args.child (ap (λ s. s.task) it.seat_is ∙ due.0) (ap (λ s. s.hand) it.seat_is ∙ due.1) due.2 spare c.requires.unheard),
    )

pub invariant_of-self : goal.invariant_of-self
invariant_of-self g c =
    let self = c.args.self.now in
    let it = self.at_work in
    let told = c.fetch_add.ensures.2 in
    let due = c.requires.due in
    let now = told.0 c.args.held.now c.args.child (ap (λ s. s.hand) it.seat_is ∙ due.1) due.3 in
    record {
      at_work = works _ self.seat.me _ _ _ _ _ it now (λ k. record { task = Opens c.args.child Registering; hand = (it.seat_is k).hand });
      within = within_now c.fetch_add.new.seat.me self.seat.me _ (ap (λ u. u.0.owner) now) told.1;
    }

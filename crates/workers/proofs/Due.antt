-- A step that was due keeps a worker steady, by what the seat tells of it.
use Rattle.std.proofs.Common.{◌≡◌, ◌∙◌, ℕ, false, Option, Some, subst}
use Rattle.atomic_table.specs.declared.shared.Seat.{Seat as TableSeat}
use Rattle.plan_events.specs.declared.event.Event.{Event}
use Rattle.scheduling.specs.declared.seat.Hand.{Hand}
use Rattle.scheduling.specs.declared.seat.Seat.{Seat}
use Rattle.scheduling.specs.declared.task.Opening.TheVariants.{Beginning, Guarding}
use Rattle.scheduling.specs.declared.task.Closing.TheVariants.{AwaitingAfter}
use Rattle.scheduling.specs.declared.task.Task.{Task}
use Rattle.scheduling.specs.declared.task.Task.TheVariants.{Opens, Closes}
use Rattle.table_rule.specs.declared.view.View.{View}
use Rattle.table_rule.specs.declared.view.Slot.{Slot}
use Rattle.table_rule.specs.declared.view.SlotState.TheVariants.{Unmoved}
use Rattle.table_rule.specs.Slots.{made_of, after_slot}
use Rattle.table_rule.specs.Plays.{worker, ready_in, ready, ready_seat, goes_on, draws_on, event_due, drawn_seat, offer_due, admitted_seat, Offer, back_due, given_seat, Back, guard_due, ended_seat, Guard}
use Rattle.run_table.specs.Seats.{seated, IsDraw, IsMove, IsReadyMove}
use Rattle.workers.specs.Inside.Steady.{Phase, HandKept, ReadySteady, Steady}
use Rattle.workers.proofs.Steps.{arrives, admitted_steady, drawn_steady, ready_steady}
use Rattle.workers.proofs.Endings.{given_steady, guarded_steady}

-- what is steady is so once its task is decided
pub is_ready : {B : Type 0} (s : TableSeat (Slot B) (View B)) (phase : Phase) → Steady phase s → ReadySteady phase s
is_ready s phase it = ready_steady s.me.0.about.plan phase (worker s.me.0) it

module _ {B : Type 0} (old new : TableSeat (Slot B) (View B)) (about : new.me.0.about ≡ old.me.0.about) where
  -- an event is drawn
  pub draws : (t : Task) → (e : Event) × (number : ℕ) × (event_due (worker old.me.0).number (ready_in old.me.0).seat.task ≡ Some e) × IsDraw old new e (drawn_seat number (ready_in old.me.0).seat (ready_in old.me.0).seat.task) t
      → ((n : ℕ) → (ready_in old.me.0).seat.task ≡ Opens n (Beginning false) → made_of (worker old.me.0).slots n ≡ Unmoved) → (phase : Phase) → ReadySteady phase old → Steady phase new
  draws t d unmoved phase it =
      let w = worker old.me.0 in
      let p = old.me.0.about.plan in
      let r = ready_seat p w in
      arrives old new phase (draws_on d.0 (drawn_seat d.1 r r.task) (ready p w)) about d.3.worker_is
      (drawn_steady p phase r w.slots it w.number d.1 d.0 d.2 unmoved)

  -- a node is offered
  pub admits : (t : Task) → (o : Offer) × (offer_due old.me.0.about.plan (worker old.me.0).number (ready_in old.me.0).seat.task ≡ Some o) × IsReadyMove old new (admitted_seat old.me.0.about.plan (ready_in old.me.0).seat (ready_in old.me.0).seat.task) t
      → (phase : Phase) → ReadySteady phase old → Steady phase new
  admits t d phase it =
      let w = worker old.me.0 in
      let p = old.me.0.about.plan in
      let r = ready_seat p w in
      arrives old new phase (goes_on (admitted_seat p r r.task) (ready p w)) about d.2.worker_is
      (admitted_steady p phase r w.slots it w.number d.0 d.1)

  -- a key is given back
  pub gives : (task t : Task) (hand : Option Hand) → (worker old.me.0).seat ≡ seated task hand → (b : Back) × (back_due task ≡ Some b) × IsMove old new (given_seat (seated task hand) task) t → (phase : Phase) → Steady phase old → Steady phase new
  gives task t hand seat_is d phase it =
      let w = worker old.me.0 in
      let p = old.me.0.about.plan in
      arrives old new phase (goes_on (given_seat (seated task hand) task) w) about d.2.worker_is
      (given_steady p phase (seated task hand) w.slots (subst (λ (s : Seat). HandKept p phase s w.slots) seat_is it.hand) d.0 d.1)

  -- a guard is given up
  pub guards : (n : ℕ) (t : Task) → (ready_in old.me.0).seat.task ≡ Opens n Guarding
      → (g : Guard) × (outstanding : ℕ) × (guard_due old.me.0.about.plan (ready_in old.me.0).answer (ready_in old.me.0).seat (ready_in old.me.0).seat.task ≡ Some g) × IsReadyMove old new (ended_seat old.me.0.about.plan g outstanding) t
      → ((m : ℕ) → t ≡ Closes m AwaitingAfter → made_of (worker old.me.0).slots (after_slot old.me.0.about.plan m) ≡ Unmoved) → (phase : Phase) → ReadySteady phase old → Steady phase new
  guards n t is d after phase it =
      let w = worker old.me.0 in
      let p = old.me.0.about.plan in
      arrives old new phase (goes_on (ended_seat p d.0 d.1) (ready p w)) about d.3.worker_is
      (guarded_steady p phase (ready_seat p w) w.slots it.hand n is w.answer d.0 d.1 d.2 (λ m e. after m (d.3.task ∙ e)))

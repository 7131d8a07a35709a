-- A factory whose job has answered: its guard is due; and that its job may answer.
use Rattle.std.proofs.Common.{◌≡◌, ◌≢◌, ◌∙◌, ◌<◌, ℕ, true, List, length, Option, Some, None, refl, sym, ap, subst}
use Rattle.atomic_table.specs.declared.shared.Seat.{Seat as TableSeat}
use Rattle.descriptor.specs.Nodes.{body_of}
use Rattle.plan_events.specs.declared.outcome.Reply.{Reply}
use Rattle.event_history.specs.Plans.{pulls_job}
use Rattle.scheduling.specs.declared.seat.Hand.{Hand}
use Rattle.scheduling.specs.declared.seat.Seat.{Seat}
use Rattle.scheduling.specs.declared.task.Task.{Task}
use Rattle.scheduling.specs.declared.task.Task.TheVariants.{Free}
use Rattle.table_rule.specs.declared.view.About.{About}
use Rattle.table_rule.specs.declared.view.View.{View}
use Rattle.table_rule.specs.declared.view.Slot.{Slot}
use Rattle.table_rule.specs.declared.view.SlotState.TheVariants.{Out, Noted}
use Rattle.table_rule.specs.declared.view.WorkerFacts.{WorkerFacts}
use Rattle.table_rule.specs.Picture.{replies_in}
use Rattle.table_rule.specs.Plays.{worker, makes, ready, ready_in, guard_due}
use Rattle.run_table.specs.Seats.{seated}
use Rattle.workers.specs.Premises.{MayAnswer}
use Rattle.workers.specs.Inside.Answering.{IsTold}
use Rattle.workers.specs.Inside.Steady.{IsPulled}
use Rattle.workers.proofs.Tests.{told_due, is_pulled_by}

pub factory_may : {B : Type 0} (answers : B → List Reply) (key about : About B) (f number : ℕ) (left : List Reply) → MayAnswer answers key → about ≡ key → pulls_job about.plan f ≡ true → body_of about.plan.tree f ≡ Some number → replies_in answers about.jobs number ≡ left → 0 < length left
factory_may answers key about f number left may same pulls body replies =
    let here : MayAnswer answers about = subst (MayAnswer answers) (sym same) may in
    subst (λ (l : List Reply). 0 < length l) replies (here.factories f number pulls body)

module _ {B : Type 0} (old new : TableSeat (Slot B) (View B)) (f asked : ℕ) (task : Task) (hand : Option Hand) where
  pub let_go_due : (worker old.me.0).seat ≡ seated task hand → IsPulled old.me.0.about.plan f asked (seated task hand) (worker old.me.0).slots → task ≡ Free → ((h : Hand) → hand ≡ Some h → h.waiting ≡ None) → new.me.0.about ≡ old.me.0.about → IsTold old new task hand f
      → guard_due new.me.0.about.plan (ready_in new.me.0).answer (ready_in new.me.0).seat (ready_in new.me.0).seat.task ≢ None
  let_go_due seat_is kept free idle about told =
      let p = old.me.0.about.plan in
      let h = kept.hand in
      let w : WorkerFacts = makes told.slot (Noted told.reply) (Some told.reply) (makes told.slot Out None (worker old.me.0)) in
      subst (λ (z : About B × WorkerFacts). guard_due z.0.plan (ready z.0.plan z.1).answer (ready z.0.plan z.1).seat (ready z.0.plan z.1).seat.task ≢ None) (λ k. (sym about k, sym told.now k))
      (told_due p w h told.reply (ap (λ (s : Seat). s.task) seat_is ∙ free) (ap (λ (s : Seat). s.hand) seat_is ∙ kept.held) refl (idle h kept.held) (is_pulled_by p h told.reply told.status told.note task hand free kept.held told.told_as))

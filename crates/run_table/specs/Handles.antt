-- What clauses say of a seat and of a table.
use Rattle.std.specs.Prelude.{◌≡◌, ℕ, Option}
use Rattle.atomic_table.specs.declared.owned.Table.{Table}
use Rattle.atomic_table.specs.declared.shared.Seat.{Seat as TableSeat}
use Rattle.plan_events.specs.declared.event.Event.{Event}
use Rattle.resource_locks.specs.Plans.{PlanParts}
use Rattle.table_rule.specs.declared.rule.Law.{Law}
use Rattle.table_rule.specs.declared.view.About.{About}
use Rattle.table_rule.specs.declared.view.DispatcherFacts.{DispatcherFacts}
use Rattle.table_rule.specs.declared.view.Slot.{Slot}
use Rattle.table_rule.specs.declared.view.TableKey.{TableKey}
use Rattle.table_rule.specs.declared.view.View.{View}
use Rattle.table_rule.specs.declared.view.WorkerFacts.{WorkerFacts}
use Rattle.table_rule.specs.Picture.{about_of}
use Rattle.table_rule.specs.Plays.{Guard, Offer, worker, dispatcher, ready_in, event_due, guard_due, offer_due}

module _ {B A : Type 0} where
  -- the run that a table is for: its plan, how many workers it has, the length of the ring, and the jobs
  abbrev pub about_in : Table (Slot B) (View B) (TableKey B) Law A → About B
  about_in t = about_of t.shared.key

  -- how many words the ring has
  abbrev pub ring_in : Table (Slot B) (View B) (TableKey B) Law A → ℕ
  ring_in t = t.shared.key.ring

module _ {B : Type 0} where
  -- all that a seat knows
  abbrev pub view_at : TableSeat (Slot B) (View B) → View B
  view_at s = s.me.0

  -- the run that the table of a seat is for
  abbrev pub about_at : TableSeat (Slot B) (View B) → About B
  about_at s = s.me.0.about

  -- its plan
  abbrev pub plan_at : TableSeat (Slot B) (View B) → PlanParts
  plan_at s = s.me.0.about.plan

  -- what the worker of a seat knows
  abbrev pub worker_at : TableSeat (Slot B) (View B) → WorkerFacts
  worker_at s = worker s.me.0

  -- what the worker of a seat knows once the answer of the job that it waits for is made use of
  abbrev pub ready_at : TableSeat (Slot B) (View B) → WorkerFacts
  ready_at s = ready_in s.me.0

  -- what is due of its task then: the event that it draws, the node that it offers, the guard that it gives up
  abbrev pub event_due_at : TableSeat (Slot B) (View B) → Option Event
  event_due_at s = event_due (worker_at s).number (ready_at s).seat.task

  abbrev pub offer_due_at : TableSeat (Slot B) (View B) → Option Offer
  offer_due_at s = offer_due (plan_at s) (worker_at s).number (ready_at s).seat.task

  abbrev pub guard_due_at : TableSeat (Slot B) (View B) → Option Guard
  guard_due_at s = guard_due (plan_at s) (ready_at s).answer (ready_at s).seat (ready_at s).seat.task

  -- what the dispatcher knows, whose seat it is
  abbrev pub dispatcher_at : TableSeat (Slot B) (View B) → DispatcherFacts
  dispatcher_at s = dispatcher s.me.0

  -- it knows what it knew, and holds what it held
  abbrev pub IsUnchanged : (old new : TableSeat (Slot B) (View B)) → Type 0
  IsUnchanged old new = new.me ≡ old.me

-- How a seat goes on, one step after the other.
use Rattle.std.proofs.Common.{◌≡◌, ◌∙◌, ◌==◌, ◌&&◌, ◌++◌, ℕ, [], ◌∷◌, Result, Ok, Err, IfOk, IfErr, refl, sym, ap, append-nil}
use Rattle.atomic_table.specs.declared.owned.Table.{Table}
use Rattle.atomic_table.specs.declared.shared.Seat.{Seat as TableSeat}
use Rattle.plan_events.specs.declared.event.Event.{Event}
use Rattle.table_rule.specs.declared.rule.Law.{Law}
use Rattle.table_rule.specs.declared.view.TableKey.{TableKey}
use Rattle.table_rule.specs.declared.view.View.{View}
use Rattle.table_rule.specs.declared.view.Slot.{Slot}
use Rattle.table_rule.specs.declared.view.WorkerFacts.{WorkerFacts}
use Rattle.scheduling.specs.declared.status.NodeStatus.{NodeStatus}
use Rattle.table_rule.specs.Plays.{worker, finds_over}
use Rattle.table_contents.specs.Reading.{status_read}
use Rattle.table_contents.specs.declared.fault.NotEnabled.{NotEnabled}
use Rattle.run_table.specs.Seats.{IsSeatOf, SameSeat}
use Rattle.workers.specs.Going.{GoesOn}

-- a step leads to a seat of the same table
pub still_of : {B A : Type 0} (t : Table (Slot B) (View B) (TableKey B) Law A) (a b : TableSeat (Slot B) (View B)) → IsSeatOf t a → SameSeat a b → IsSeatOf t b
still_of t a b is same = record { same = same.table ∙ is.same; about = same.about ∙ is.about }

pub same_itself : {B : Type 0} (a : TableSeat (Slot B) (View B)) → SameSeat a a
same_itself a = record { table = refl; id = refl; about = refl; number = refl }

pub same_then : {B : Type 0} (a b c : TableSeat (Slot B) (View B)) → SameSeat a b → SameSeat b c → SameSeat a c
same_then a b c first second = record { table = second.table ∙ first.table; id = second.id ∙ first.id; about = second.about ∙ first.about; number = second.number ∙ first.number }

-- its own list stays
pub goes_as : {B : Type 0} (a b : TableSeat (Slot B) (View B)) → SameSeat a b → (worker b.me.0).mine ≡ (worker a.me.0).mine → GoesOn a b
goes_as a b same is = record { same = same; mine = record { more = []; is = is ∙ sym (append-nil (worker a.me.0).mine) } }

-- one event more
pub goes_with : {B : Type 0} (a b : TableSeat (Slot B) (View B)) (e : Event) → SameSeat a b → (worker b.me.0).mine ≡ (worker a.me.0).mine ++ e ∷ [] → GoesOn a b
goes_with a b e same is = record { same = same; mine = record { more = e ∷ []; is = is } }

pub goes_itself : {B : Type 0} (a : TableSeat (Slot B) (View B)) → GoesOn a a
goes_itself a = goes_as a a (same_itself a) refl

-- after a look at a status the worker's own list is as it was
pub looked : {B : Type 0} (X : Type 0) (result : Result NodeStatus NotEnabled) (node : ℕ) (a b : TableSeat (Slot B) (View B)) → SameSeat a b → IfOk result (λ s. (word : ℕ) × (s ≡ status_read word) × (worker b.me.0 ≡ finds_over ((node == 0) && (word == 1)) (worker a.me.0)))
    → IfErr result (λ e. (b.me ≡ a.me) × X) → GoesOn a b
looked X (Ok s) node a b same done refused = goes_as a b same (ap (λ (w : WorkerFacts). w.mine) done.2)
looked X (Err e) node a b same done refused = goes_as a b same (ap (λ me. (worker me.0).mine) refused.0)

-- two steps lead to a seat of the same table
pub then_still : {B A : Type 0} (t : Table (Slot B) (View B) (TableKey B) Law A) (a b c : TableSeat (Slot B) (View B)) → IsSeatOf t a → SameSeat a b → SameSeat b c → IsSeatOf t c
then_still t a b c is first second = still_of t b c (still_of t a b is first) second

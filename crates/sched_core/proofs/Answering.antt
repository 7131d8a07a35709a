-- A step that is due is answered by its row.
use Rattle.std.proofs.Common.{◌≡◌, ◌∙◌, ℕ, Option, Some, None, Ok, slice_get, refl, sym, ap, subst}
use Rattle.resource_locks.specs.Plans.{PlanParts}
use Rattle.scheduling.specs.declared.lock_word.LockWord.{LockWord}
use Rattle.scheduling.specs.declared.task.Task.{Task}
use Rattle.scheduling.specs.declared.seat.Hand.{Hand}
use Rattle.scheduling.specs.Choices.{key_at}
use Rattle.scheduling.specs.Rows.{gives_key, give_row}
use Rattle.scheduling.specs.State.{State}
use Rattle.scheduling.specs.Due.{Back, back_due, given_seat}
use Rattle.scheduling.proofs.DueRows.{give_key}
use Rattle.sched_core.specs.declared.fault.NotEnabled.{NotEnabled}
use Rattle.sched_core.specs.declared.machine.Machine.{Machine}
use Rattle.sched_core.specs.Inside.Fields.{state_of, seated, IsAnswered, KeepsRoom}

-- the machine is in the state to which the row leads
pub answered_by : (old new : Machine) (row : Option State) (to : State) → row ≡ Some to → state_of new ≡ to → KeepsRoom old new → IsAnswered {T = Unit {0}} {E = NotEnabled} old row (Ok tt) new
answered_by old new row to leads is room = subst (λ (o : Option State). IsAnswered {T = Unit {0}} {E = NotEnabled} old o (Ok tt) new) (sym leads) (refl, is, room)

-- a key is given back, whatever task the seat had before
gives_alike : (p : PlanParts) (s : State) (w : ℕ) (before then : Task) (hand : Option Hand) (n i : ℕ) (word : Option LockWord) → gives_key p s w (seated before hand) then n i word ≡ gives_key p s w (seated then hand) then n i word
gives_alike p s w before then hand n i None = refl
gives_alike p s w before then hand n i (Some word) = refl

pub gives_due : (p : PlanParts) (s : State) (w : ℕ) (before then : Task) (hand : Option Hand) (b : Back) → back_due before ≡ Some b → seated then hand ≡ given_seat (seated before hand) before
    → give_row p s w (seated before hand) before ≡ gives_key p s w (seated then hand) then b.node b.place (slice_get s.locks (key_at p b.node b.place))
gives_due p s w before then hand b due goes =
    let word = slice_get s.locks (key_at p b.node b.place) in
    give_key p s w (seated before hand) b before due
    ∙ ap (λ (t : Task). gives_key p s w (seated before hand) t b.node b.place word) (ap (λ x. x.task) (sym goes))
    ∙ gives_alike p s w before then hand b.node b.place word

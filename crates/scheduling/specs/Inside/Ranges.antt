-- What the steps of a worker read is in range, and what they count does not overflow. Only private functions and proofs need this file.
use Rattle.std.specs.Prelude.{◌≡◌, ℕ, ◌+◌, ◌<◌, true, length, Some, slice_get}
use Rattle.descriptor.specs.Nodes.{size, IsChild, is_factory_at}
use Rattle.plan_events.specs.declared.event.Event.{Event}
use Rattle.resource_locks.specs.Plans.{PlanParts}
use Rattle.scheduling.specs.declared.lock_word.LockWord.{LockWord}
use Rattle.scheduling.specs.declared.lock_word.LockWord.TheVariants.{Readers}
use Rattle.scheduling.specs.declared.task.Opening.TheVariants.{Locking, Weighed, Backing, Admitting}
use Rattle.scheduling.specs.declared.task.Closing.TheVariants.{Giving, Looking, Passing, CountingOff}
use Rattle.scheduling.specs.declared.task.Task.TheVariants.{Opens, Closes}
use Rattle.scheduling.specs.declared.seat.Hand.{Hand}
use Rattle.scheduling.specs.declared.seat.Seat.{Seat}
use Rattle.scheduling.specs.State.{State, counter_at, subject}
use Rattle.scheduling.specs.Choices.{keys_count}
use Rattle.scheduling.specs.Shown.{named}

-- of the seat of the worker at place w
pub record InRange (p : PlanParts) (s : State) (w : ℕ) (seat : Seat) : Type 0 where
  pub inside : (n : ℕ) → subject seat.task ≡ Some n → n < size p.tree
  -- the factory in hand, and what is counted for it
  pub hand : (h : Hand) → seat.hand ≡ Some h → h.factory < size p.tree
  pub factory : (h : Hand) → seat.hand ≡ Some h → is_factory_at p.tree h.factory ≡ true
  pub counter : (h : Hand) → seat.hand ≡ Some h → counter_at s h.factory < 65535
  pub registered : (h : Hand) → seat.hand ≡ Some h → h.registered < 65535
  -- what was drawn
  pub shown : (i : ℕ) (e : Event) → named w seat.task ≡ Some (i, e) → i < length s.shown
  -- the keys of the node
  pub locking : (n i : ℕ) → seat.task ≡ Opens n (Locking i) → i < keys_count p n
  pub weighed : (n i : ℕ) (v : LockWord) → seat.task ≡ Opens n (Weighed i v) → i < keys_count p n
  pub backs : (n i : ℕ) → seat.task ≡ Opens n (Backing (i + 1)) → i < keys_count p n
  pub gives : (n i : ℕ) → seat.task ≡ Closes n (Giving (i + 1)) → i < keys_count p n
  pub readers : (k n : ℕ) → slice_get s.locks k ≡ Some (Readers n) → n < 65535
  -- the nodes that the task names besides
  pub admits : (n c : ℕ) → seat.task ≡ Opens n (Admitting c) → IsChild p.tree n c
  pub passes : (n k o : ℕ) → seat.task ≡ Closes n (Passing k o) → k < size p.tree
  pub counts : (c : ℕ) → seat.task ≡ Closes c CountingOff → 0 < c
  pub looks : (n k : ℕ) → seat.task ≡ Closes n (Looking k) → 0 < n

-- What a step finds in range. Only private functions and proofs need this file.
use Rattle.std.specs.Prelude.{◌≡◌, ℕ, ◌+◌, ◌<◌, true, length, Some, slice_get, slice_index_or, vec_capacity}
use Rattle.descriptor.specs.Nodes.{size, IsChild, is_factory_at}
use Rattle.plan_events.specs.declared.event.Event.{Event}
use Rattle.resource_locks.specs.Plans.{PlanParts}
use Rattle.scheduling.specs.declared.lock_word.LockWord.{LockWord}
use Rattle.scheduling.specs.declared.lock_word.LockWord.TheVariants.{Readers}
use Rattle.scheduling.specs.declared.task.Opening.{Opening}
use Rattle.scheduling.specs.declared.task.Opening.TheVariants.{Locking, Weighed, Admitting}
use Rattle.scheduling.specs.declared.task.Closing.{Closing}
use Rattle.scheduling.specs.declared.task.Closing.TheVariants.{Looking, Passing, CountingOff, Raising}
use Rattle.scheduling.specs.declared.task.Task.TheVariants.{Opens, Closes}
use Rattle.scheduling.specs.declared.seat.Hand.{Hand}
use Rattle.scheduling.specs.declared.seat.Seat.{Seat}
use Rattle.scheduling.specs.Choices.{keys_count}
use Rattle.scheduling.specs.Shown.{named}
use Rattle.scheduling.specs.Due.{event_due, Back, back_due}
use Rattle.sched_core.specs.declared.machine.Machine.{Machine}

-- node n holds a key at this place
pub record HasKey (p : PlanParts) (n i : ℕ) : Type 0 where
  pub node : n < size p.tree
  pub key : i < keys_count p n

-- there is a place for one more event
pub record HasPlace (m : Machine) : Type 0 where
  pub published : length m.published.items < vec_capacity m.published
  pub shown : length m.shown.items < vec_capacity m.shown
  -- what is given was published
  pub given : m.given < length m.published.items + 1

-- f is a factory, and its counter has a place for one more
pub record IsFactory (p : PlanParts) (m : Machine) (f : ℕ) : Type 0 where
  pub inside : f < size p.tree
  pub factory : is_factory_at p.tree f ≡ true
  pub counter : f < length m.counters.items
  pub few : slice_index_or m.counters.items f 0 < 65535

-- c is a node that has a parent
pub record HasParent (p : PlanParts) (c : ℕ) : Type 0 where
  pub above_zero : 0 < c
  pub inside : c < size p.tree

-- what a step of the worker at place w finds in range, with this seat, whose task is decided
pub record InBounds (p : PlanParts) (m : Machine) (w : ℕ) (seat : Seat) : Type 0 where
  pub place : w < length m.seats.items
  pub few : w < 64
  pub statuses : length m.statuses.items ≡ size p.tree
  pub counters : length m.counters.items ≡ size p.tree
  pub results : length m.results.items ≡ size p.tree
  pub opens : (n : ℕ) (d : Opening) → seat.task ≡ Opens n d → n < size p.tree
  pub closes : (n : ℕ) (d : Closing) → seat.task ≡ Closes n d → n < size p.tree
  pub hand : (h : Hand) → seat.hand ≡ Some h → IsFactory p m h.factory
  pub registered : (h : Hand) → seat.hand ≡ Some h → h.registered < 65535
  pub room : (e : Event) → event_due w seat.task ≡ Some e → HasPlace m
  pub shown : (i : ℕ) (e : Event) → named w seat.task ≡ Some (i, e) → i < length m.shown.items
  pub locking : (n i : ℕ) → seat.task ≡ Opens n (Locking i) → HasKey p n i
  pub weighed : (n i : ℕ) (v : LockWord) → seat.task ≡ Opens n (Weighed i v) → HasKey p n i
  pub backs : (b : Back) → back_due seat.task ≡ Some b → HasKey p b.node b.place
  pub readers : (k n : ℕ) → slice_get m.locks.items k ≡ Some (Readers n) → n < 65535
  pub admits : (n c : ℕ) (d : Opening) → seat.task ≡ Opens n d → d ≡ Admitting c → IsChild p.tree n c
  pub passes : (n k o : ℕ) → seat.task ≡ Closes n (Passing k o) → k < size p.tree
  pub counts : (c : ℕ) → seat.task ≡ Closes c CountingOff → HasParent p c
  pub looks : (n k : ℕ) → seat.task ≡ Closes n (Looking k) → HasParent p n
  pub raises : (n : ℕ) → seat.task ≡ Closes n Raising → m.cancel < 65535

-- The state of the core. Worker number k stands at place k - 1 of the seats; here a worker is that place.
use Rattle.std.specs.Prelude.{ℕ, Bool, true, false, List, Option, Some, None, slice_index_or}
use Rattle.plan_events.specs.declared.event.Event.{Event}
use Rattle.plan_events.specs.declared.status.Status.{Status}
use Rattle.plan_events.specs.declared.status.Status.TheVariants.{Successful}
use Rattle.scheduling.specs.declared.status.NodeStatus.{NodeStatus}
use Rattle.scheduling.specs.declared.status.NodeStatus.TheVariants.{Hidden}
use Rattle.scheduling.specs.declared.lock_word.LockWord.{LockWord}
use Rattle.scheduling.specs.declared.lock_word.LockWord.TheVariants.{Readers}
use Rattle.scheduling.specs.declared.task.Opening.{Opening}
use Rattle.scheduling.specs.declared.task.Opening.TheVariants.{Registering, RegisteredAt, Offering, Admitting, Guarding}
use Rattle.scheduling.specs.declared.task.Closing.{Closing}
use Rattle.scheduling.specs.declared.task.Closing.TheVariants.{AwaitingAfter}
use Rattle.scheduling.specs.declared.task.Task.{Task}
use Rattle.scheduling.specs.declared.task.Task.TheVariants.{Free, Opens, Closes}
use Rattle.scheduling.specs.declared.seat.Seat.{Seat}

pub record State : Type 0 where
  pub statuses : List NodeStatus
  -- what is outstanding at each node: its own guard, and what is to be counted off
  pub counters : List ℕ
  -- the result of each node, once its guard is given up
  pub results : List Status
  pub locks : List LockWord
  -- how many failures were raised
  pub cancel : ℕ
  pub seats : List Seat
  -- the events that are drawn, and whether each is shown
  pub published : List Event
  pub shown : List Bool
  pub given : List Event

abbrev pub status_at : State → ℕ → NodeStatus
status_at s n = slice_index_or s.statuses n Hidden

abbrev pub counter_at : State → ℕ → ℕ
counter_at s n = slice_index_or s.counters n 0

abbrev pub result_at : State → ℕ → Status
result_at s n = slice_index_or s.results n Successful

abbrev pub lock_at : State → ℕ → LockWord
lock_at s k = slice_index_or s.locks k (Readers 0)

-- the node that a task is about
abbrev pub subject : Task → Option ℕ
subject Free = None
subject (Opens n d) = Some n
subject (Closes n d) = Some n

-- whether the node's job may be in its worker's hands: from the claim until the job has answered
abbrev pub opening_slot : Opening → Bool
opening_slot Registering = false
opening_slot (RegisteredAt i) = false
opening_slot Offering = false
opening_slot (Admitting c) = false
opening_slot Guarding = false
opening_slot _ = true

-- whether the job of its after-body may be in its worker's hands
abbrev pub closing_slot : Closing → Bool
closing_slot AwaitingAfter = true
closing_slot _ = false

-- the node whose slot the task's worker may hold
abbrev pub if_slot : Bool → ℕ → Option ℕ
if_slot true n = Some n
if_slot false n = None

abbrev pub slot_node : Task → Option ℕ
slot_node Free = None
slot_node (Opens n d) = if_slot (opening_slot d) n
slot_node (Closes n d) = if_slot (closing_slot d) n

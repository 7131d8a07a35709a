-- What a worker has drawn stands at the place that its task names, not shown until the worker shows it.
use Rattle.std.specs.Prelude.{◌≡◌, ℕ, ◌<◌, ◌≤◌, true, false, List, length, Option, Some, None, slice_get}
use Rattle.plan_events.specs.declared.event.Event.{Event}
use Rattle.plan_events.specs.declared.event.EventKind.TheVariants.{Started, Finished, Skipped, Registered}
use Rattle.scheduling.specs.declared.task.Opening.TheVariants.{RegisteredAt, StartedAt}
use Rattle.scheduling.specs.declared.task.Closing.TheVariants.{FinishedAt, SkippedAt}
use Rattle.scheduling.specs.declared.task.Task.{Task}
use Rattle.scheduling.specs.declared.task.Task.TheVariants.{Opens, Closes}
use Rattle.scheduling.specs.declared.seat.Seat.{Seat}
use Rattle.scheduling.specs.State.{State}
use Rattle.scheduling.specs.Choices.{event_of}

-- the place and the event that a task of worker w names: between draw and show
abbrev pub named : ℕ → Task → Option (ℕ × Event)
named w (Opens n (RegisteredAt i)) = Some (i, event_of Registered n None w)
named w (Opens n (StartedAt i)) = Some (i, event_of Started n None w)
named w (Closes n (SkippedAt i)) = Some (i, event_of Skipped n None w)
named w (Closes n (FinishedAt i status)) = Some (i, event_of Finished n (Some status) w)
named w _ = None

-- some worker's task names the place
pub record IsNamed (seats : List Seat) (i : ℕ) : Type 0 where
  pub worker : ℕ
  pub seat : Seat
  pub is : slice_get seats worker ≡ Some seat
  pub event : Event
  pub names : named worker seat.task ≡ Some (i, event)

-- What was given was shown: each place of it is marked as shown, and what a worker has drawn and has still to show stands behind
-- all of it.
pub record IsShown (s : State) (given : List Event) : Type 0 where
  pub marked : (i : ℕ) → i < length given → slice_get s.shown i ≡ Some true
  pub behind : (w : ℕ) (seat : Seat) (i : ℕ) (e : Event) → slice_get s.seats w ≡ Some seat → named w seat.task ≡ Some (i, e) → length given ≤ i

pub record IsPlaced (s : State) : Type 0 where
  -- what a task names stands at its place, and is not shown
  pub stands : (w : ℕ) (seat : Seat) (i : ℕ) (e : Event) → slice_get s.seats w ≡ Some seat → named w seat.task ≡ Some (i, e) → (slice_get s.published i ≡ Some e) × (slice_get s.shown i ≡ Some false)
  -- and a place that is not shown is named by a task
  pub unshown : (i : ℕ) → slice_get s.shown i ≡ Some false → IsNamed s.seats i
  pub as_many : length s.shown ≡ length s.published

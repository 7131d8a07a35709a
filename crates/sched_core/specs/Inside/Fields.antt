-- The machine's fields, as a state, and what they keep. Only private functions and proofs need this file.
use Rattle.std.specs.Prelude.{◌≡◌, ℕ, zero, suc, ◌+◌, ◌≤◌, List, [], ◌∷◌, ◌++◌, length, take, Option, Some, None, Result, IsOk, IsErr, vec_capacity}
use Rattle.plan_events.specs.declared.event.Event.{Event}
use Rattle.plan_events.specs.declared.outcome.Reply.{Reply}
use Rattle.resource_locks.specs.Plans.{PlanParts, IsPlan, most_events}
use Rattle.event_history.specs.Parts.{part_of}
use Rattle.scheduling.specs.declared.task.Task.{Task}
use Rattle.scheduling.specs.declared.seat.Hand.{Hand}
use Rattle.scheduling.specs.declared.seat.Seat.{Seat}
use Rattle.scheduling.specs.State.{State}
use Rattle.never_stuck.specs.Inside.Live.{IsLive}
use Rattle.sched_core.specs.declared.machine.Machine.{Machine}
use Rattle.sched_core.specs.Replies.{reply_of, replies_of}

-- the parts of the first so many workers
abbrev pub parts_upto : ℕ → List Event → List (List Event)
parts_upto zero h = []
parts_upto (suc k) h = parts_upto k h ++ part_of (k + 1) h ∷ []

-- what is given is the beginning of what is published
abbrev pub state_of : Machine → State
state_of m = record {
  statuses = m.statuses.items;
  counters = m.counters.items;
  results = m.results.items;
  locks = m.locks.items;
  cancel = m.cancel;
  seats = m.seats.items;
  published = m.published.items;
  shown = m.shown.items;
  given = take m.given m.published.items;
}

-- a task, and what is in hand
abbrev pub seated : Task → Option Hand → Seat
seated t hand = record { task = t; hand = hand }

-- there is room for every event of the plan
pub record HasRoom (p : PlanParts) (m : Machine) : Type 0 where
  pub published : most_events p ≤ vec_capacity m.published
  pub shown : most_events p ≤ vec_capacity m.shown

-- no room is lost, and what was given was published
pub record KeepsRoom (old new : Machine) : Type 0 where
  pub workers : new.workers ≡ old.workers
  pub published : vec_capacity old.published ≤ vec_capacity new.published
  pub shown : vec_capacity old.shown ≤ vec_capacity new.shown
  pub given : old.given ≤ length old.published.items → new.given ≤ length new.published.items

-- the machine runs this plan: a seat for each worker, a state that the core keeps, and room for every event
pub record IsSound (p : PlanParts) (answers : List (ℕ × Reply)) (m : Machine) : Type 0 where
  pub plan : IsPlan p
  pub workers : length m.seats.items ≡ m.workers
  pub live : IsLive p (replies_of answers) (reply_of answers) (state_of m)
  pub given : m.given ≤ length m.published.items
  pub room : HasRoom p m

-- The answer to a step that leads to this state, or that is not enabled and changes nothing
abbrev pub IsAnswered : {T E : Type 0} → Machine → Option State → Result T E → Machine → Type 0
IsAnswered old None result new = IsErr result × (new ≡ old)
IsAnswered old (Some t) result new = IsOk result × (state_of new ≡ t) × KeepsRoom old new

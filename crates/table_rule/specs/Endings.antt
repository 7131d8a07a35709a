-- How a run can still end: by further steps that go with the ring.
use Rattle.std.specs.Prelude.{◌≡◌, ℕ, ◌+◌, ◌<◌, List, [], ◌∷◌, length, Some, slice_get}
use Rattle.plan_events.specs.declared.event.Event.{Event}
use Rattle.plan_events.specs.declared.outcome.Reply.{Reply}
use Rattle.resource_locks.specs.Plans.{PlanParts}
use Rattle.resource_locks.specs.Spares.{HasFreeSpares}
use Rattle.scheduling.specs.declared.seat.Seat.{Seat}
use Rattle.scheduling.specs.Rows.{Step, Works, Dispatches}
use Rattle.scheduling.specs.Runs.{next, run}
use Rattle.scheduling.specs.Shown.{named}
use Rattle.scheduling.specs.State.{State}
use Rattle.never_stuck.specs.Reaching.{AllOfFirst, AllGiven, IsEnded, MayReply}

-- What a worker shows stands less than a ring of so many places ahead of what is given.
abbrev pub HasRoomFor : ℕ → State → Step → Type 0
HasRoomFor ring s (Works w a reply) = (seat : Seat) (i : ℕ) (e : Event) → slice_get s.seats w ≡ Some seat → named w seat.task ≡ Some (i, e) → i < length s.given + ring
HasRoomFor ring s Dispatches = Unit {0}

abbrev pub AllHaveRoom : PlanParts → ℕ → State → List Step → Type 0
AllHaveRoom p ring s [] = Unit {0}
AllHaveRoom p ring s (a ∷ list) = HasRoomFor ring s a × AllHaveRoom p ring (next p s a) list

-- From this state further steps of the dispatcher and of the first workers, so many, bring the run to its end, each with the reply that
-- its job gives, and each show with room in the ring.
pub record CanEndWithin (p : PlanParts) (ring many : ℕ) (reply : ℕ → Reply) (s : State) : Type 0 where
  pub steps : List Step
  pub first : AllOfFirst many steps
  pub given : AllGiven p reply s steps
  pub room : AllHaveRoom p ring s steps
  pub ended : IsEnded p (run p s steps)

-- From this state the run can still end so, whatever the jobs reply that have not answered yet: where no spare holds a key.
abbrev pub IsNotStuckWithin : PlanParts → (ring many : ℕ) → (ℕ → List Reply) → State → Type 0
IsNotStuckWithin p ring many told s = HasFreeSpares p → (reply : ℕ → Reply) → MayReply p told s reply → CanEndWithin p ring many reply s

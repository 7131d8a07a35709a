-- How much a run of the fixed schedule still has to do: a number that each of its steps lowers. Only private functions and
-- proofs need this file.
use Rattle.std.specs.Prelude.{◌≡◌, ℕ, ◌+◌, ◌*◌, ◌-◌, true, length, Some, slice_get, sum_by}
use Rattle.descriptor.specs.Nodes.{size}
use Rattle.resource_locks.specs.Plans.{PlanParts, most_events}
use Rattle.scheduling.specs.declared.status.NodeStatus.{NodeStatus}
use Rattle.scheduling.specs.declared.status.NodeStatus.TheVariants.{Hidden, Ready, Claimed, Settled}
use Rattle.scheduling.specs.declared.task.Opening.{Opening}
use Rattle.scheduling.specs.declared.task.Opening.TheVariants.{Registering, RegisteredAt, Offering, Noticing, Locking, Weighed, Backing, Beginning, StartedAt, Awaiting, Admitting, Guarding}
use Rattle.scheduling.specs.declared.task.Closing.{Closing}
use Rattle.scheduling.specs.declared.task.Closing.TheVariants.{AwaitingAfter, Ending, FinishedAt, SkippedAt, Raising, Giving, Settling, Looking, Passing, CountingOff}
use Rattle.scheduling.specs.declared.task.Task.{Task}
use Rattle.scheduling.specs.declared.task.Task.TheVariants.{Free, Opens, Closes}
use Rattle.scheduling.specs.declared.seat.Seat.{Seat}
use Rattle.scheduling.specs.State.{State, lock_at}
use Rattle.scheduling.specs.Choices.{keys_count, key_at, mode_at, admits_at}
use Rattle.scheduling.specs.Inside.Invariant.{sum_below}

-- how many changes of its status a node has before it
abbrev pub status_rank : NodeStatus → ℕ
status_rank Hidden = 3
status_rank (Ready o) = 2
status_rank (Claimed w) = 1
status_rank Settled = 0

-- how many changes the statuses, the counters and the history have before them
abbrev pub changes_left : PlanParts → State → ℕ
changes_left p s = sum_by status_rank s.statuses + sum_by (λ c. c) s.counters + (most_events p - length s.published)

-- what one such change weighs: more than what a worker does between two
unfoldable pub weight : PlanParts → ℕ
weight p = sum_below (keys_count p) (size p.tree) + 8

-- A task is above those that its step may leave, but for a step that makes one of these changes. Who is free may raise a
-- counter, as it brings a spare in.
abbrev pub opening_rank : PlanParts → ℕ → Opening → ℕ
opening_rank p n Registering = 0
opening_rank p n (RegisteredAt i) = 3
opening_rank p n Offering = 2
opening_rank p n Noticing = 6 + 2 * keys_count p n
opening_rank p n (Locking i) = 5 + 2 * (keys_count p n - i)
opening_rank p n (Weighed i word) = 4 + 2 * (keys_count p n - i)
opening_rank p n (Backing i) = 0
opening_rank p n (Beginning skip) = 4
opening_rank p n (StartedAt i) = weight p + 2
opening_rank p n Awaiting = 2
opening_rank p n (Admitting c) = 2
opening_rank p n Guarding = 2

abbrev pub closing_rank : PlanParts → ℕ → Closing → ℕ
closing_rank p n AwaitingAfter = 2
closing_rank p n (Ending status) = 2
closing_rank p n (FinishedAt i status) = 4 + keys_count p n
closing_rank p n (SkippedAt i) = 3
closing_rank p n Raising = 3 + keys_count p n
closing_rank p n (Giving i) = 2 + i
closing_rank p n Settling = 2
closing_rank p n (Looking m) = 2
closing_rank p n (Passing m o) = 1
closing_rank p n CountingOff = 2

abbrev pub task_rank : PlanParts → Task → ℕ
task_rank p Free = weight p + 1
task_rank p (Opens n d) = opening_rank p n d
task_rank p (Closes n d) = closing_rank p n d

abbrev pub seat_rank : PlanParts → Seat → ℕ
seat_rank p seat = task_rank p seat.task

abbrev pub work_left : PlanParts → State → ℕ
work_left p s = changes_left p s * weight p + sum_by (seat_rank p) s.seats + (length s.published - length s.given)

-- no other worker is in the way of the task: the key that it comes to may be taken, and has the word that was seen
abbrev pub IsClear : PlanParts → State → Task → Type 0
IsClear p s (Opens n (Locking i)) = admits_at p n i (lock_at s (key_at p n i)) ≡ true
IsClear p s (Opens n (Weighed i word)) = slice_get s.locks (key_at p n i) ≡ Some word
IsClear p s (Opens n (Backing i)) = ⊥
IsClear p s _ = Unit {0}

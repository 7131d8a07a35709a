-- How many steps are left at most: each step pays from the account of the node that it is about. Only private functions and proofs
-- need this file.
use Rattle.std.specs.Prelude.{ℕ, ◌+◌, ◌*◌, ◌-◌, true, false, ◌||◌, cond, length, sum_by}
use Rattle.descriptor.specs.Nodes.{size, is_disabled, bit}
use Rattle.resource_locks.specs.Plans.{PlanParts, most_events}
use Rattle.scheduling.specs.declared.status.NodeStatus.{NodeStatus}
use Rattle.scheduling.specs.declared.status.NodeStatus.TheVariants.{Hidden, Ready, Claimed, Settled}
use Rattle.scheduling.specs.declared.task.Opening.{Opening}
use Rattle.scheduling.specs.declared.task.Opening.TheVariants.{Registering, RegisteredAt, Offering, Noticing, Locking, Weighed, Backing, Beginning, StartedAt, Awaiting, Admitting, Guarding}
use Rattle.scheduling.specs.declared.task.Closing.{Closing}
use Rattle.scheduling.specs.declared.task.Closing.TheVariants.{AwaitingAfter, Ending, FinishedAt, SkippedAt, Raising, Giving, Settling, Looking, Passing, CountingOff}
use Rattle.scheduling.specs.declared.task.Task.{Task}
use Rattle.scheduling.specs.declared.task.Task.TheVariants.{Free, Opens, Closes}
use Rattle.scheduling.specs.declared.seat.Seat.{Seat}
use Rattle.scheduling.specs.State.{State, status_at, counter_at}
use Rattle.scheduling.specs.Choices.{keys_count}
use Rattle.scheduling.specs.Inside.Invariant.{sum_below}
use Rattle.termination.specs.Bounds.{most_keys, if_fast}

-- one, if the node may be skipped: it is disabled, or the plan fails fast
abbrev pub if_skippable : PlanParts → ℕ → ℕ
if_skippable p n = bit (p.fail_fast || is_disabled p.tree n)

-- A node is offered, claimed, it takes its keys and gives them back, and is settled.
abbrev pub status_steps : PlanParts → ℕ → NodeStatus → ℕ
status_steps p n Hidden = 2 + if_skippable p n + if_fast p + 3 * keys_count p n
status_steps p n (Ready o) = if_skippable p n + if_fast p + 3 * keys_count p n
status_steps p n (Claimed w) = if_fast p + keys_count p n
status_steps p n Settled = 0

-- Each thing that is outstanding is counted off; at a node that is disabled nothing is.
abbrev pub counter_steps : PlanParts → ℕ → ℕ → ℕ
counter_steps p n c = cond (is_disabled p.tree n) 0 c

abbrev pub statuses_left : PlanParts → State → ℕ
statuses_left p s = sum_below (λ n. status_steps p n (status_at s n)) (size p.tree)

abbrev pub counters_left : PlanParts → State → ℕ
counters_left p s = sum_below (λ n. counter_steps p n (counter_at s n)) (size p.tree)

-- What a worker does until the node's status, a counter or the history changes, and as many more as a node has keys at most: who gives keys
-- back pays with these until its node is settled. The steps back from a key that was found busy end with a node that is offered again.
abbrev pub opening_steps : PlanParts → ℕ → Opening → ℕ
opening_steps p n Registering = most_keys p
opening_steps p n (RegisteredAt i) = 2 + most_keys p
opening_steps p n Offering = 1 + most_keys p
opening_steps p n Noticing = 3 - if_fast p + 2 * keys_count p n + most_keys p
opening_steps p n (Locking i) = 1 + 2 * (keys_count p n - i) + most_keys p
opening_steps p n (Weighed i word) = 2 * (keys_count p n - i) + most_keys p
opening_steps p n (Backing i) = 4 + 2 * keys_count p n + i + most_keys p
opening_steps p n (Beginning true) = 2 - if_fast p + most_keys p
opening_steps p n (Beginning false) = 1 + most_keys p
opening_steps p n (StartedAt i) = 3 + most_keys p
opening_steps p n Awaiting = 2 + most_keys p
opening_steps p n (Admitting c) = 1 + most_keys p
opening_steps p n Guarding = 2 + most_keys p

abbrev pub closing_steps : PlanParts → ℕ → Closing → ℕ
closing_steps p n AwaitingAfter = 2 + most_keys p
closing_steps p n (Ending status) = 2 + most_keys p
closing_steps p n (FinishedAt i status) = 4 + most_keys p
closing_steps p n (SkippedAt i) = 4 - if_fast p + most_keys p
closing_steps p n Raising = 4 - if_fast p + most_keys p
closing_steps p n (Giving i) = 3 - if_fast p + (most_keys p - keys_count p n) + i
closing_steps p n Settling = 3 - if_fast p + (most_keys p - keys_count p n)
closing_steps p n (Looking m) = 2 + most_keys p
closing_steps p n (Passing m o) = 1 + most_keys p
closing_steps p n CountingOff = 2 + most_keys p

abbrev pub task_steps : PlanParts → Task → ℕ
task_steps p Free = 2 + most_keys p
task_steps p (Opens n d) = opening_steps p n d
task_steps p (Closes n d) = closing_steps p n d

abbrev pub seat_steps : PlanParts → Seat → ℕ
seat_steps p seat = task_steps p seat.task

-- an event is drawn, shown and given
abbrev pub steps_left : PlanParts → State → ℕ
steps_left p s = statuses_left p s + counters_left p s + 4 * (most_events p - length s.published) + sum_by (seat_steps p) s.seats + (length s.published - length s.given)

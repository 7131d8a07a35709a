-- How many steps a run takes at most that change its state.
use Rattle.std.specs.Prelude.{ℕ, ◌+◌, ◌*◌, ◌-◌, ◌≤◌, Bool, false, ◌==◌, if◌then◌else◌, List, [], ◌∷◌, length, Option, Some, None, slice_get}
use Rattle.descriptor.specs.Nodes.{bit}
use Rattle.plan_events.specs.declared.outcome.Reply.{Reply}
use Rattle.resource_locks.specs.Plans.{PlanParts}
use Rattle.scheduling.specs.declared.seat.Seat.{Seat}
use Rattle.scheduling.specs.declared.step.Action.{Action}
use Rattle.scheduling.specs.declared.step.Action.TheVariants.{Look}
use Rattle.scheduling.specs.declared.step.Step.{Step}
use Rattle.scheduling.specs.declared.step.Step.TheVariants.{Worker, Read}
use Rattle.scheduling.specs.Rows.{is_free}
use Rattle.scheduling.specs.Runs.{opening}
use Rattle.scheduling.specs.State.{State}
use Rattle.termination.specs.Bounds.{most_steps, steps_of_a_try, most_steps_apart, most_steps_on, most_steps_apart_on}
use Rattle.termination.specs.Conflicts.{IsFreeOfConflict}
use Rattle.termination.specs.Steps.{turns_seat_back}
use Rattle.sched_core.specs.Runs.{state_or, passed_over}
use Rattle.sched_core.specs.Steps.{after_step}

-- the seat of the worker with this number, from 1
abbrev pub seat_of : State → ℕ → Option Seat
seat_of s worker = if worker == 0 then None else slice_get s.seats (worker - 1)

-- whether a worker looks for work that is free: it finds nothing, and nothing changes
abbrev pub looks_free : Action → Option Seat → Bool
looks_free Look (Some seat) = is_free seat.task
looks_free a seat = false

abbrev pub finds_nothing : State → Step → Bool
finds_nothing s (Worker worker a) = looks_free a (seat_of s worker)
finds_nothing s Read = false

-- whether a worker is turned back at a key: it finds the key busy that it weighs, or changed that it comes to take
abbrev pub turns_back : PlanParts → State → Step → Bool
turns_back p s (Worker worker a) = turns_seat_back p s a (seat_of s worker)
turns_back p s Read = false

-- how many of these steps are looks of a free worker
abbrev pub free_looks : PlanParts → List (ℕ × Reply) → State → List Step → ℕ
free_looks p answers s [] = 0
free_looks p answers s (a ∷ steps) = bit (finds_nothing s a) + free_looks p answers (state_or s (after_step p answers s a)) steps

-- and how many turn their worker back
abbrev pub times_turned_back : PlanParts → List (ℕ × Reply) → State → List Step → ℕ
times_turned_back p answers s [] = 0
times_turned_back p answers s (a ∷ steps) = bit (turns_back p s a) + times_turned_back p answers (state_or s (after_step p answers s a)) steps

-- Of these steps at most so many are neither passed over nor a free worker's look: they change the state.
abbrev pub TakesAtMost : PlanParts → List (ℕ × Reply) → State → List Step → (passed most : ℕ) → Type 0
TakesAtMost p answers s steps passed most = length steps ≤ passed + free_looks p answers s steps + most

-- no more than the plan and the number of workers say, and a try's steps more for each time that a worker is turned back
abbrev pub IsBounded : PlanParts → List (ℕ × Reply) → ℕ → List Step → (passed : ℕ) → Type 0
IsBounded p answers workers steps passed = TakesAtMost p answers (opening p workers) steps passed (most_steps p workers + times_turned_back p answers (opening p workers) steps * steps_of_a_try p)

-- no more than the plan and the number of workers say, however often workers are turned back
abbrev pub IsShort : PlanParts → List (ℕ × Reply) → ℕ → List Step → (passed : ℕ) → Type 0
IsShort p answers workers steps passed = IsFreeOfConflict p → TakesAtMost p answers (opening p workers) steps passed (most_steps_apart p workers)

-- whatever steps are taken from a state on: no more than the plan and the workers say, and a try's steps more for each turn back
abbrev pub IsBoundedOn : PlanParts → List (ℕ × Reply) → State → Type 0
IsBoundedOn p answers s = (steps : List Step) → TakesAtMost p answers s steps (passed_over p answers s steps) (most_steps_on p (length s.seats) + times_turned_back p answers s steps * steps_of_a_try p)

abbrev pub IsShortOn : PlanParts → List (ℕ × Reply) → State → Type 0
IsShortOn p answers s = IsFreeOfConflict p → (steps : List Step) → TakesAtMost p answers s steps (passed_over p answers s steps) (most_steps_apart_on p (length s.seats))

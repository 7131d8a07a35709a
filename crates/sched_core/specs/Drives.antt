-- The fixed schedule with one worker, where each job has the reply that was handed in for it: until node 0 is settled the
-- worker takes the next step of the schedule, and the dispatcher reads whatever is shown before the next such step.
use Rattle.std.specs.Prelude.{ℕ, List}
use Rattle.plan_events.specs.declared.outcome.Reply.{Reply}
use Rattle.resource_locks.specs.Plans.{PlanParts}
use Rattle.scheduling.specs.declared.seat.Seat.{Seat}
use Rattle.scheduling.specs.Schedule.{Drives as DrivesBy, LeadsTo as LeadsBy}
use Rattle.scheduling.specs.State.{State}
use Rattle.sched_core.specs.Going.{IsOnSchedule as IsOnScheduleBy}
use Rattle.sched_core.specs.Replies.{replies_of}
use Rattle.sched_core.specs.Steps.{reply_for}

abbrev pub reply_given : PlanParts → List (ℕ × Reply) → State → Seat → Reply
reply_given p answers s seat = reply_for p answers seat

-- from the one state the schedule ends in the other
abbrev pub Drives : PlanParts → List (ℕ × Reply) → State → State → Type 0
Drives p answers s t = DrivesBy p (reply_given p answers) s t

-- what has run so far, for proofs: wherever the schedule ends from s, it ends from the first state
abbrev pub LeadsTo : PlanParts → List (ℕ × Reply) → State → State → Type 0
LeadsTo p answers first s = LeadsBy p (reply_given p answers) first s

-- what the schedule keeps, for proofs
abbrev pub IsOnSchedule : PlanParts → List (ℕ × Reply) → State → Type 0
IsOnSchedule p answers s = IsOnScheduleBy p (replies_of answers) s

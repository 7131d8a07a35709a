-- The relation of one step, where each job has the reply that was handed in for it.
use Rattle.std.specs.Prelude.{ℕ, ◌-◌, ◌==◌, if◌then◌else◌, List, Option, Some, None, slice_get, option_and_then}
use Rattle.plan_events.specs.declared.outcome.Reply.{Reply}
use Rattle.resource_locks.specs.Plans.{PlanParts}
use Rattle.scheduling.specs.declared.seat.Seat.{Seat}
use Rattle.scheduling.specs.declared.step.Action.{Action}
use Rattle.scheduling.specs.declared.step.Step.{Step}
use Rattle.scheduling.specs.declared.step.Step.TheVariants.{Worker, Read}
use Rattle.scheduling.specs.Choices.{awaited}
use Rattle.scheduling.specs.Rows.{after_seat, read_row}
use Rattle.scheduling.specs.State.{State}
use Rattle.sched_core.specs.Replies.{reply_of, or_successful}

-- the reply of the body that a seat awaits; one that says nothing, where it awaits none
abbrev pub reply_awaited : List (ℕ × Reply) → Option ℕ → Reply
reply_awaited answers None = or_successful None
reply_awaited answers (Some body) = reply_of answers body

abbrev pub reply_for : PlanParts → List (ℕ × Reply) → Seat → Reply
reply_for p answers seat = reply_awaited answers (awaited p seat seat.task)

-- the step of the worker with this number, from 1
abbrev pub worker_step : PlanParts → List (ℕ × Reply) → State → ℕ → Action → Option State
worker_step p answers s worker a = if worker == 0 then None else option_and_then (λ seat. after_seat p s (worker - 1) a (reply_for p answers seat) seat) (slice_get s.seats (worker - 1))

-- from s the step leads to this state, or it is not enabled
abbrev pub after_step : PlanParts → List (ℕ × Reply) → State → Step → Option State
after_step p answers s (Worker worker a) = worker_step p answers s worker a
after_step p answers s Read = read_row s

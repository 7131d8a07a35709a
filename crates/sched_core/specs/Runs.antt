-- Runs of a list of steps, and what every run keeps.
use Rattle.std.specs.Prelude.{◌≡◌, ℕ, ◌+◌, ◌<◌, ◌≤◌, List, [], ◌∷◌, length, Option, Some, None, slice_get}
use Rattle.unique_id.specs.Prefixes.{IsPrefix}
use Rattle.plan_events.specs.declared.event.EventKind.TheVariants.{Finished}
use Rattle.plan_events.specs.declared.event.Event.{Event}
use Rattle.plan_events.specs.declared.outcome.Reply.{Reply}
use Rattle.resource_locks.specs.Plans.{PlanParts, most_events}
use Rattle.event_history.specs.Places.{StandsAt}
use Rattle.event_history.specs.History.{IsLegal, IsComplete}
use Rattle.event_history.specs.Order.{IsInOrder}
use Rattle.event_history.specs.Exclusion.{IsExclusive}
use Rattle.event_history.specs.Limits.{IsWithinLimits}
use Rattle.event_history.specs.Parts.{part_of}
use Rattle.scheduling.specs.declared.step.Step.{Step}
use Rattle.scheduling.specs.State.{State}
use Rattle.sched_core.specs.Replies.{replies_of}
use Rattle.sched_core.specs.Steps.{after_step}

-- the state after a step; the same where the step is not enabled
abbrev pub state_or : State → Option State → State
state_or s None = s
state_or s (Some t) = t

-- how many steps one step adds to those passed over
abbrev pub missed : Option State → ℕ
missed None = 1
missed (Some t) = 0

-- the state after these steps
abbrev pub run : PlanParts → List (ℕ × Reply) → State → List Step → State
run p answers s [] = s
run p answers s (a ∷ steps) = run p answers (state_or s (after_step p answers s a)) steps

-- how many of them are passed over
abbrev pub passed_over : PlanParts → List (ℕ × Reply) → State → List Step → ℕ
passed_over p answers s [] = 0
passed_over p answers s (a ∷ steps) = missed (after_step p answers s a) + passed_over p answers (state_or s (after_step p answers s a)) steps

-- The headline, of what was published, what was given and each worker's own list: what was published is legal, in
-- same-thread order, exclusive and within limits, and so is what was given, a beginning of it; each worker's list is its part, and begins
-- with its part of what was given; and where the plan's finish stands, it is last, and the history is complete.
pub record IsRight (p : PlanParts) (answers : List (ℕ × Reply)) (workers : ℕ) (published given : List Event) (mine : List (List Event)) : Type 0 where
  pub legal : IsLegal p (replies_of answers) workers published
  pub order : IsInOrder p published
  pub exclusive : IsExclusive p published
  pub within : IsWithinLimits p published
  pub few : length published ≤ most_events p
  pub given_first : IsPrefix given published
  pub given_legal : IsLegal p (replies_of answers) workers given
  pub lists : length mine ≡ workers
  pub parts : (w : ℕ) → w < workers → slice_get mine w ≡ Some (part_of (w + 1) published)
  pub given_parts : (w : ℕ) (list : List Event) → slice_get mine w ≡ Some list → IsPrefix (part_of (w + 1) given) list
  pub last : (i : ℕ) → StandsAt published i Finished 0 → i + 1 ≡ length published
  pub complete : (i : ℕ) → StandsAt published i Finished 0 → IsComplete p published

-- That a run takes no more steps than its plan says, and that it ends.
use Rattle.std.specs.Prelude.{ℕ, ◌+◌, ◌*◌, ◌<◌, ◌≤◌, List, length, ◌⊎◌}
use Rattle.plan_events.specs.declared.outcome.Reply.{Reply}
use Rattle.resource_locks.specs.Plans.{PlanParts}
use Rattle.scheduling.specs.State.{State}
use Rattle.scheduling.specs.Rows.{Step}
use Rattle.scheduling.specs.Runs.{opening, run, AllReplied}
use Rattle.never_stuck.specs.Reaching.{only, IsGivenReply, IsEnded}
use Rattle.termination.specs.Bounds.{most_steps, steps_of_a_try, most_steps_apart}
use Rattle.termination.specs.Steps.{IsTaken, AllTaken, times_turned_back}

-- Whatever steps so many workers and the dispatcher take, in whatever order, each with a reply of its job: there are no more
-- than the plan says, and a try's steps more for each time that a worker is turned back.
abbrev pub IsBounded : PlanParts → Type 0
IsBounded p = (replies : ℕ → List Reply) (workers : ℕ) → workers ≤ 64 → (list : List Step) → AllReplied p replies (opening p workers) list → AllTaken p (opening p workers) list
    → length list ≤ most_steps p workers + times_turned_back p (opening p workers) list * steps_of_a_try p

-- Whatever steps they take, however often workers are turned back: there are no more than the plan and the number of workers say.
abbrev pub IsShort : PlanParts → Type 0
IsShort p = (replies : ℕ → List Reply) (workers : ℕ) → workers ≤ 64 → (list : List Step) → AllReplied p replies (opening p workers) list → AllTaken p (opening p workers) list
    → length list ≤ most_steps_apart p workers

-- some step may be taken, with the reply that its job gives
pub record GoesOn (p : PlanParts) (reply : ℕ → Reply) (s : State) : Type 0 where
  pub step : Step
  pub given : IsGivenReply p reply s step
  pub taken : IsTaken p s step

-- A run comes to rest at its end alone: after whatever steps of however many workers it is over, or goes on.
abbrev pub RestsAtItsEnd : PlanParts → Type 0
RestsAtItsEnd p = (reply : ℕ → Reply) (workers : ℕ) → 0 < workers → workers ≤ 64 → (list : List Step) → AllReplied p (only reply) (opening p workers) list → IsEnded p (run p (opening p workers) list) ⊎ GoesOn p reply (run p (opening p workers) list)

-- Every run ends: after whatever steps it is over, or goes on; and it goes on no longer than so many steps.
abbrev pub EveryRunEnds : PlanParts → Type 0
EveryRunEnds p = (reply : ℕ → Reply) (workers : ℕ) → 0 < workers → workers ≤ 64 → (list : List Step) → AllReplied p (only reply) (opening p workers) list → AllTaken p (opening p workers) list
    → (length list ≤ most_steps_apart p workers) × (IsEnded p (run p (opening p workers) list) ⊎ GoesOn p reply (run p (opening p workers) list))

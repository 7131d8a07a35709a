-- The number below which the fixed schedule knows that no node is open. Only private functions and proofs need this file.
use Rattle.std.specs.Prelude.{◌≡◌, ℕ, zero, ◌<◌, min, false, Option, Some, None}
use Rattle.scheduling.specs.declared.task.Opening.{Opening}
use Rattle.scheduling.specs.declared.task.Opening.TheVariants.{Offering, Admitting, Backing}
use Rattle.scheduling.specs.declared.task.Closing.{Closing}
use Rattle.scheduling.specs.declared.task.Closing.TheVariants.{Passing}
use Rattle.scheduling.specs.declared.task.Task.{Task}
use Rattle.scheduling.specs.declared.task.Task.TheVariants.{Free, Opens, Closes}
use Rattle.scheduling.specs.State.{State, status_at}
use Rattle.scheduling.specs.Schedule.{is_open}

-- no node below this number is open
abbrev pub NoneOpenBelow : State → ℕ → Type 0
NoneOpenBelow s n = (m : ℕ) → m < n → is_open (status_at s m) ≡ false

-- the node that the task's step offers
abbrev pub offered_opening : ℕ → Opening → Option ℕ
offered_opening n (Admitting c) = Some c
offered_opening n Offering = Some n
offered_opening n (Backing zero) = Some n
offered_opening n _ = None

abbrev pub offered_closing : Closing → Option ℕ
offered_closing (Passing m o) = Some m
offered_closing _ = None

abbrev pub offered_by : Task → Option ℕ
offered_by Free = None
offered_by (Opens n d) = offered_opening n d
offered_by (Closes n d) = offered_closing d

-- Where no node below this number is open, none is below the new number after the task's step.
abbrev pub lower : Option ℕ → (lowest : ℕ) → ℕ
lower None lowest = lowest
lower (Some c) lowest = min lowest c

abbrev pub lowest_after : Task → (lowest : ℕ) → ℕ
lowest_after t lowest = lower (offered_by t) lowest

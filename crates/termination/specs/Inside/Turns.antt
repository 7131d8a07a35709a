-- What turns of workers keep. Only private functions and proofs need this file.
use Rattle.std.specs.Prelude.{◌≡◌, ◌≢◌, ℕ, false, Some, slice_get}
use Rattle.resource_locks.specs.Plans.{PlanParts}
use Rattle.scheduling.specs.declared.task.Opening.TheVariants.{Noticing, Locking, Weighed, Backing}
use Rattle.scheduling.specs.declared.task.Task.{Task}
use Rattle.scheduling.specs.declared.task.Task.TheVariants.{Opens}
use Rattle.scheduling.specs.declared.seat.Seat.{Seat}
use Rattle.scheduling.specs.Choices.{key_at}
use Rattle.scheduling.specs.State.{State}
use Rattle.termination.specs.Turns.{AreFreeFrom, takes_keys}

-- the keys that are still to be taken may be taken, and the one that was weighed has the same word
abbrev pub IsAhead : PlanParts → State → Task → Type 0
IsAhead p s (Opens n Noticing) = AreFreeFrom p s n 0
IsAhead p s (Opens n (Locking i)) = AreFreeFrom p s n i
IsAhead p s (Opens n (Weighed i word)) = AreFreeFrom p s n i × (slice_get s.locks (key_at p n i) ≡ Some word)
IsAhead p s (Opens n (Backing i)) = ⊥
IsAhead p s _ = Unit {0}

-- It is this worker's turn: no other takes keys.
abbrev pub IsTurnOf : PlanParts → State → ℕ → Type 0
IsTurnOf p s w = (v : ℕ) (seat : Seat) → slice_get s.seats v ≡ Some seat → (v ≡ w → IsAhead p s seat.task) × (v ≢ w → takes_keys seat.task ≡ false)

-- Between two turns nobody does.
abbrev pub IsBetweenTurns : State → Type 0
IsBetweenTurns s = (v : ℕ) (seat : Seat) → slice_get s.seats v ≡ Some seat → takes_keys seat.task ≡ false

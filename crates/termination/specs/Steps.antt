-- Lists of steps of which each changes the state, and how often a worker is turned back at a key.
use Rattle.std.specs.Prelude.{◌≡◌, ◌≢◌, ℕ, ◌+◌, Bool, false, not, List, [], ◌∷◌, Option, Some, None, slice_get, slice_index_or}
use Rattle.descriptor.specs.Nodes.{bit}
use Rattle.resource_locks.specs.Plans.{PlanParts}
use Rattle.scheduling.specs.declared.lock_word.LockWord.{LockWord}
use Rattle.scheduling.specs.declared.lock_word.LockWord.TheVariants.{Readers}
use Rattle.scheduling.specs.declared.task.Opening.TheVariants.{Locking, Weighed}
use Rattle.scheduling.specs.declared.task.Task.{Task}
use Rattle.scheduling.specs.declared.task.Task.TheVariants.{Opens}
use Rattle.scheduling.specs.declared.seat.Seat.{Seat}
use Rattle.scheduling.specs.declared.step.Action.{Action}
use Rattle.scheduling.specs.declared.step.Action.TheVariants.{Weigh, Take}
use Rattle.scheduling.specs.State.{State}
use Rattle.scheduling.specs.Choices.{key_at, mode_at, admits_at, same_word}
use Rattle.scheduling.specs.Rows.{Step, Works, Dispatches, after}
use Rattle.scheduling.specs.Runs.{next}

-- A step is taken where it is possible and makes another state. A free worker that looks for work makes the same one.
pub record IsTaken (p : PlanParts) (s : State) (a : Step) : Type 0 where
  pub made : State
  pub is : after p s a ≡ Some made
  pub other : made ≢ s

-- each step of the list is taken
abbrev pub AllTaken : PlanParts → State → List Step → Type 0
AllTaken p s [] = Unit {0}
AllTaken p s (a ∷ list) = IsTaken p s a × AllTaken p (next p s a) list

-- whether a worker with this task is turned back by this step, where the keys have these words: the key that it weighs is busy,
-- or the key that it comes to take has another word than when it was weighed
abbrev pub is_turned_back : PlanParts → List LockWord → Task → Action → Bool
is_turned_back p locks (Opens n (Locking i)) Weigh = not (admits_at p n i (slice_index_or locks (key_at p n i) (Readers 0)))
is_turned_back p locks (Opens n (Weighed i word)) Take = not (same_word (slice_index_or locks (key_at p n i) (Readers 0)) word)
is_turned_back p locks _ _ = false

abbrev pub turns_seat_back : PlanParts → State → Action → Option Seat → Bool
turns_seat_back p s a None = false
turns_seat_back p s a (Some seat) = is_turned_back p s.locks seat.task a

abbrev pub turns_back : PlanParts → State → Step → Bool
turns_back p s (Works w a reply) = turns_seat_back p s a (slice_get s.seats w)
turns_back p s Dispatches = false

-- how many steps of the list turn their worker back
abbrev pub times_turned_back : PlanParts → State → List Step → ℕ
times_turned_back p s [] = 0
times_turned_back p s (a ∷ list) = bit (turns_back p s a) + times_turned_back p (next p s a) list

-- Runs: the opening state, a list of steps, the replies that steps may have, and what every state that is reached has.
use Rattle.std.specs.Prelude.{◌≡◌, ℕ, zero, suc, ◌+◌, false, ◌&&◌, not, List, [], ◌∷◌, length, replicate, Option, Some, None, slice_get}
use Rattle.unique_id.specs.Prefixes.{IsPrefix}
use Rattle.descriptor.specs.Nodes.{size, is_child, is_spare_at, count_below}
use Rattle.plan_events.specs.declared.outcome.Reply.{Reply}
use Rattle.plan_events.specs.declared.status.Status.TheVariants.{Successful}
use Rattle.plan_events.specs.declared.event.EventKind.TheVariants.{Finished}
use Rattle.resource_locks.specs.Held.{table}
use Rattle.resource_locks.specs.Plans.{PlanParts}
use Rattle.event_history.specs.Places.{StandsAt}
use Rattle.event_history.specs.History.{IsLegal, IsComplete}
use Rattle.event_history.specs.Order.{IsInOrder}
use Rattle.event_history.specs.Exclusion.{IsExclusive}
use Rattle.event_history.specs.Limits.{IsWithinLimits}
use Rattle.scheduling.specs.declared.status.NodeStatus.{NodeStatus}
use Rattle.scheduling.specs.declared.status.NodeStatus.TheVariants.{Hidden, Ready}
use Rattle.scheduling.specs.declared.lock_word.LockWord.TheVariants.{Readers}
use Rattle.scheduling.specs.declared.task.Task.TheVariants.{Free}
use Rattle.scheduling.specs.declared.seat.Seat.{Seat}
use Rattle.scheduling.specs.State.{State}
use Rattle.scheduling.specs.Choices.{awaited}
use Rattle.scheduling.specs.Shown.{IsShown}
use Rattle.scheduling.specs.Rows.{Step, Works, Dispatches, after}

-- node 0 is offered to any worker; each counter has the node's guard, and its children but for spares
abbrev pub first_status : ℕ → NodeStatus
first_status zero = Ready None
first_status (suc n) = Hidden

abbrev pub first_counter : PlanParts → ℕ → ℕ
first_counter p n = 1 + count_below (λ c. is_child p.tree n c && not (is_spare_at p.tree c)) (size p.tree)

abbrev pub opening : PlanParts → ℕ → State
opening p workers = record {
  statuses = table first_status (size p.tree);
  counters = table (first_counter p) (size p.tree);
  results = table (λ n. Successful) (size p.tree);
  locks = replicate (length p.keys) (Readers 0);
  cancel = 0;
  seats = replicate workers (record { task = Free; hand = None });
  published = [];
  shown = [];
  given = [];
}

-- the job that the step's worker awaits, if any, has the step's reply
abbrev pub IsReplied : PlanParts → (ℕ → List Reply) → State → Step → Type 0
IsReplied p replies s (Works w a reply) = (seat : Seat) → slice_get s.seats w ≡ Some seat → (job : ℕ) → awaited p seat seat.task ≡ Some job → (i : ℕ) × (slice_get (replies job) i ≡ Some reply)
IsReplied p replies s Dispatches = Unit {0}

-- a step that is not enabled is passed over
abbrev pub or_stays : State → Option State → State
or_stays s None = s
or_stays s (Some t) = t

abbrev pub next : PlanParts → State → Step → State
next p s a = or_stays s (after p s a)

abbrev pub run : PlanParts → State → List Step → State
run p s [] = s
run p s (a ∷ list) = run p (next p s a) list

-- each step has a reply of the job that its worker awaits
abbrev pub AllReplied : PlanParts → (ℕ → List Reply) → State → List Step → Type 0
AllReplied p replies s [] = Unit {0}
AllReplied p replies s (a ∷ list) = IsReplied p replies s a × AllReplied p replies (next p s a) list

-- what every state has that is reached
pub record IsRight (p : PlanParts) (replies : ℕ → List Reply) (workers : ℕ) (s : State) : Type 0 where
  pub legal : IsLegal p replies workers s.published
  pub order : IsInOrder p s.published
  pub exclusive : IsExclusive p s.published
  pub within : IsWithinLimits p s.published
  -- what is given is a beginning of what is published, and was shown
  pub given : IsPrefix s.given s.published
  pub shown : IsShown s s.given
  -- where the plan's finish stands, it stands last, and the history is complete
  pub last : (i : ℕ) → StandsAt s.published i Finished 0 → i + 1 ≡ length s.published
  pub complete : (i : ℕ) → StandsAt s.published i Finished 0 → IsComplete p s.published

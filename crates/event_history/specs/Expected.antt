-- The result that is expected of each node where each job has one reply. No order and no worker occurs here.
use Rattle.std.specs.Prelude.{◌≡◌, ℕ, zero, suc, ◌&&◌, ◌||◌, not, nat_lt, nat_le, Bool, true, false, cond, List, [], ◌∷◌, Option, Some, None, slice_get}
use Rattle.descriptor.specs.Nodes.{parent_of, is_disabled, is_spare_at}
use Rattle.plan_events.specs.declared.event.EventKind.TheVariants.{Finished, Skipped}
use Rattle.plan_events.specs.declared.status.Status.{Status}
use Rattle.plan_events.specs.declared.status.Status.TheVariants.{Successful, Failed}
use Rattle.plan_events.specs.declared.event.Event.{Event}
use Rattle.plan_events.specs.declared.outcome.Reply.{Reply}
use Rattle.plan_events.specs.Statuses.{is_successful}
use Rattle.resource_locks.specs.Plans.{PlanParts}
use Rattle.event_history.specs.Plans.{rank}
use Rattle.event_history.specs.Places.{StandsAt, IsSilent}
use Rattle.event_history.specs.History.{HasResult}
use Rattle.event_history.specs.Results.{Jobs, NoJob, Alone, Pulled, Around, jobs_of, too_many}

pub data Expected : Type 0 where
  Silent : Expected
  Skips : Expected
  Finishes : Status → Option (List ℕ) → Expected

-- each job has this one reply
abbrev pub HasOneReply : (ℕ → Reply) → (ℕ → List Reply) → Type 0
HasOneReply reply replies = (job : ℕ) → replies job ≡ reply job ∷ []

-- a reply's outcome
abbrev pub outcome_of : Reply → Expected
outcome_of r = Finishes r.outcome.status (Some r.outcome.text)

-- whether a container is stopped by its body's outcome
abbrev pub is_stopped_by : (ℕ → Reply) → Jobs → Bool
is_stopped_by reply (Around (Some body) after) = not (is_successful (reply body).outcome.status)
is_stopped_by reply _ = false

-- the result of a container that is not stopped
abbrev pub after_children : (ℕ → Reply) → Option ℕ → Option ℕ → Expected
after_children reply body (Some after) = outcome_of (reply after)
after_children reply None None = Finishes Successful None
after_children reply (Some body) None = outcome_of (reply body)

-- the result of a node that is started
abbrev pub result_by : (ℕ → Reply) → Jobs → Expected
result_by reply NoJob = Finishes Successful None
result_by reply (Alone body) = outcome_of (reply body)
result_by reply (Pulled body spares) = cond (nat_lt spares (reply body).pulls) (Finishes Failed (Some too_many)) (outcome_of (reply body))
result_by reply (Around None after) = after_children reply None after
result_by reply (Around (Some body) after) = cond (not (is_successful (reply body).outcome.status)) (outcome_of (reply body)) (after_children reply (Some body) after)

-- whether a factory for which these jobs are run leaves its spare of this rank, counted from 0
abbrev pub leaves : (ℕ → Reply) → Jobs → ℕ → Bool
leaves reply (Pulled body spares) k = nat_le (reply body).pulls k
leaves reply _ k = true

-- whether nothing is run below a node with this result
abbrev pub is_closed : Expected → Bool
is_closed Silent = true
is_closed Skips = true
is_closed (Finishes status text) = false

-- the result of a node itself
abbrev pub own_result : PlanParts → (ℕ → Reply) → ℕ → Expected
own_result p reply n = cond (is_disabled p.tree n) Skips (result_by reply (jobs_of p n))

-- the result of a node whose parent has this one
abbrev pub below_result : PlanParts → (ℕ → Reply) → ℕ → Expected → Expected
below_result p reply n above =
    cond (is_closed above || is_stopped_by reply (jobs_of p (parent_of p.tree n)) || (is_spare_at p.tree n && leaves reply (jobs_of p (parent_of p.tree n)) (rank p n)))
    Silent (own_result p reply n)

-- from the root down, so many levels: as a parent has a smaller number, more than n are enough for node n
abbrev pub expected_by : PlanParts → (ℕ → Reply) → ℕ → ℕ → Expected
expected_by p reply zero n = Silent
expected_by p reply (suc k) zero = own_result p reply zero
expected_by p reply (suc k) (suc n) = below_result p reply (suc n) (expected_by p reply k (parent_of p.tree (suc n)))

-- the result that is expected of node n
abbrev pub expected : PlanParts → (ℕ → Reply) → ℕ → Expected
expected p reply n = expected_by p reply (suc n) n

-- node n finishes with this status, and its text can be no other than this one
pub record EndsSo (p : PlanParts) (replies : ℕ → List Reply) (h : List Event) (n : ℕ) (status : Status) (text : Option (List ℕ)) : Type 0 where
  pub place : ℕ
  pub event : Event
  pub here : slice_get h place ≡ Some event
  pub kind : event.kind ≡ Finished
  pub node : event.node ≡ n
  pub status_is : event.status ≡ Some status
  pub result : HasResult p replies h place event text
  pub only : (other : Option (List ℕ)) → HasResult p replies h place event other → other ≡ text

-- what the history has of node n is what is expected
abbrev pub IsAsExpected : PlanParts → (ℕ → List Reply) → List Event → ℕ → Expected → Type 0
IsAsExpected p replies h n Silent = IsSilent h n
IsAsExpected p replies h n Skips = (i : ℕ) × StandsAt h i Skipped n
IsAsExpected p replies h n (Finishes status text) = EndsSo p replies h n status text

-- What a list of events must be like: every statement here is by the places of the list.
use Rattle.std.specs.Prelude.{◌≡◌, ℕ, ◌<◌, ◌≤◌, Bool, true, false, ◌&&◌, List, take, length, Option, Some, None, slice_get, ◌⊎◌, codes}
use Rattle.descriptor.specs.Nodes.{size, parent_of, IsChild, Below, is_disabled, count_below, is_spare_at, reason_of}
use Rattle.plan_events.specs.declared.event.EventKind.{EventKind}
use Rattle.plan_events.specs.declared.event.EventKind.TheVariants.{Started, Finished, Skipped, Registered}
use Rattle.plan_events.specs.declared.status.Status.{Status}
use Rattle.plan_events.specs.declared.event.Event.{Event}
use Rattle.plan_events.specs.declared.outcome.Reply.{Reply}
use Rattle.plan_events.specs.Words.{is_lawful}
use Rattle.plan_events.specs.Statuses.{is_successful}
use Rattle.event_history.specs.Places.{StandsAt, StandsBefore, IsSettledAt, has}
use Rattle.event_history.specs.Failures.{failures, known, up_to}
use Rattle.resource_locks.specs.Plans.{PlanParts}
use Rattle.event_history.specs.Plans.{IsElder, is_spare_of, pulls_job}
use Rattle.event_history.specs.Results.{jobs_of, is_stoppable, Ends}

-- The container is stopped: it is no factory, has a body, finishes without success, and nothing stands for a node
-- below it.
pub record IsStopped (p : PlanParts) (h : List Event) (a : ℕ) : Type 0 where
  pub body : is_stoppable (jobs_of p a) ≡ true
  pub place : ℕ
  pub finish : StandsAt h place Finished a
  pub status : Status
  pub ends : finish.event.status ≡ Some status
  pub unsuccessful : is_successful status ≡ false
  pub silent : (j : ℕ) (e : Event) → slice_get h j ≡ Some e → Below p.tree a e.node → ⊥

-- whether it is stopped
abbrev pub StoppedIs : PlanParts → List Event → ℕ → Bool → Type 0
StoppedIs p h a true = IsStopped p h a
StoppedIs p h a false = IsStopped p h a → ⊥

-- a spare that is never registered
pub record IsUnregistered (p : PlanParts) (h : List Event) (c : ℕ) : Type 0 where
  pub spare : is_spare_at p.tree c ≡ true
  pub never : (i : ℕ) → StandsAt h i Registered c → ⊥

-- how many spares of f stand registered before place i
abbrev pub registered_before : PlanParts → List Event → ℕ → ℕ → ℕ
registered_before p h i f = count_below (λ c. is_spare_of p f c && has Registered c (take i h)) (size p.tree)

-- the finish at place i is lawful: a reply of the node's jobs has its status, and this text
pub record HasResult (p : PlanParts) (replies : ℕ → List Reply) (h : List Event) (i : ℕ) (e : Event) (text : Option (List ℕ)) : Type 0 where
  pub status : Status
  pub here : e.status ≡ Some status
  pub stopped : Bool
  pub stops : StoppedIs p h e.node stopped
  pub lawful : Ends replies (jobs_of p e.node) stopped (registered_before p h i e.node) status text

-- A history is legal for a plan, the replies of its jobs and a number of workers
pub record IsLegal (p : PlanParts) (replies : ℕ → List Reply) (workers : ℕ) (h : List Event) : Type 0 where
  -- each event is lawful, of a node of the plan and by a worker of the run
  pub lawful : (i : ℕ) (e : Event) → slice_get h i ≡ Some e → is_lawful e ≡ true
  pub nodes : (i : ℕ) (e : Event) → slice_get h i ≡ Some e → e.node < size p.tree
  pub by_workers : (i : ℕ) (e : Event) → slice_get h i ≡ Some e → e.worker ≤ workers
  -- each kind stands at most once per node
  pub once : (i j n : ℕ) (k : EventKind) → StandsAt h i k n → StandsAt h j k n → i ≡ j
  -- no node is both started and skipped
  pub apart : (i j n : ℕ) → StandsAt h i Started n → StandsAt h j Skipped n → ⊥
  -- a finish has its start before it
  pub after_start : (i n : ℕ) → StandsAt h i Finished n → StandsBefore h i Started n
  -- a spare of a factory with a job alone is registered
  pub registered : (i n : ℕ) → StandsAt h i Registered n → (is_spare_at p.tree n && pulls_job p (parent_of p.tree n)) ≡ true
  -- every other event of a spare stands after that
  pub after_registered : (i : ℕ) (e : Event) → slice_get h i ≡ Some e → is_spare_at p.tree e.node ≡ true → (e.kind ≡ Registered) ⊎ StandsBefore h i Registered e.node
  -- the registered spares of a factory are its first ones, in their order
  pub elder_registered : (i c d : ℕ) → StandsAt h i Registered d → IsElder p.tree c d → StandsBefore h i Registered c
  -- what stands for a node stands after the start of each node above it
  pub start_above : (i a : ℕ) (e : Event) → slice_get h i ≡ Some e → Below p.tree a e.node → StandsBefore h i Started a
  -- and not after its finish
  pub open_above : (i a : ℕ) (e : Event) → slice_get h i ≡ Some e → Below p.tree a e.node → StandsBefore h i Finished a → ⊥
  -- a disabled node alone is skipped, or, in a plan that fails fast, one before whose skip more nodes failed than are tolerated
  pub skipped : (i n : ℕ) → StandsAt h i Skipped n → (is_disabled p.tree n ≡ true) ⊎ ((p.fail_fast ≡ true) × (p.tolerated < failures (take i h)))
  -- a disabled node is never started
  pub unstarted : (i n : ℕ) → StandsAt h i Started n → is_disabled p.tree n ≡ false
  -- nothing stands for a node below one that is skipped
  pub below_skipped : (i j a : ℕ) (e : Event) → StandsAt h i Skipped a → slice_get h j ≡ Some e → Below p.tree a e.node → ⊥
  -- in a plan that fails fast no worker starts a node that knew, at its last event before, of more failures than are tolerated
  pub quits : p.fail_fast ≡ true → (j : ℕ) (f : Event) → slice_get h j ≡ Some f → f.kind ≡ Started → known f.worker (up_to f.worker (take j h)) ≤ p.tolerated
  -- a node that is not stopped finishes after its children are settled, but for spares that are never registered
  pub settled : (i a c : ℕ) → StandsAt h i Finished a → (IsStopped p h a → ⊥) → IsChild p.tree a c → IsSettledAt h i c ⊎ IsUnregistered p h c
  -- each finish has a lawful result
  pub result : (i : ℕ) (e : Event) → slice_get h i ≡ Some e → e.kind ≡ Finished → (text : Option (List ℕ)) × HasResult p replies h i e text

-- the node is skipped or stopped
abbrev pub IsClosed : PlanParts → List Event → ℕ → Type 0
IsClosed p h a = ((i : ℕ) × StandsAt h i Skipped a) ⊎ IsStopped p h a

-- the node lies below one that is skipped or stopped
abbrev pub IsBarred : PlanParts → List Event → ℕ → Type 0
IsBarred p h n = (a : ℕ) × (IsClosed p h a × Below p.tree a n)

-- every node is settled at the end, or lies below one that is skipped or stopped, or is a spare that is never registered
abbrev pub IsComplete : PlanParts → List Event → Type 0
IsComplete p h = (n : ℕ) → n < size p.tree → IsSettledAt h (length h) n ⊎ (IsBarred p h n ⊎ IsUnregistered p h n)

-- why a node that is not disabled is skipped
abbrev pub cancelled : List ℕ
cancelled = codes "cancelled"

abbrev pub reason_or_cancelled : Option (List ℕ) → List ℕ
reason_or_cancelled None = cancelled
reason_or_cancelled (Some reason) = reason

-- The text of a node: its reason where it is skipped; where it is finished, the text of the reply that gives its
-- status; else none.
pub record IsTextOf (p : PlanParts) (replies : ℕ → List Reply) (h : List Event) (n : ℕ) (text : Option (List ℕ)) : Type 0 where
  pub of_skip : (i : ℕ) → StandsAt h i Skipped n → text ≡ Some (reason_or_cancelled (reason_of p.tree n))
  pub of_finish : (i : ℕ) (e : Event) → slice_get h i ≡ Some e → e.kind ≡ Finished → e.node ≡ n → HasResult p replies h i e text
  pub of_none : ((i : ℕ) → StandsAt h i Skipped n → ⊥) → ((i : ℕ) → StandsAt h i Finished n → ⊥) → text ≡ None

-- What the next event of a history needs of the events before it. Only proofs need this file.
use Rattle.std.specs.Prelude.{◌≡◌, ℕ, ◌<◌, ◌≤◌, Bool, true, false, ◌&&◌, ◌||◌, ◌==◌, List, Option, Some, ◌⊎◌}
use Rattle.descriptor.specs.Nodes.{size, parent_of, IsChild, is_disabled, count_below, is_spare_at}
use Rattle.plan_events.specs.declared.event.EventKind.{EventKind}
use Rattle.plan_events.specs.declared.event.EventKind.TheVariants.{Started, Finished, Skipped, Registered}
use Rattle.plan_events.specs.declared.status.Status.{Status}
use Rattle.plan_events.specs.declared.event.Event.{Event}
use Rattle.plan_events.specs.declared.outcome.Reply.{Reply}
use Rattle.plan_events.specs.Words.{is_lawful}
use Rattle.event_history.specs.Places.{is_of, has_event, has}
use Rattle.event_history.specs.Failures.{failures, known, up_to}
use Rattle.resource_locks.specs.Plans.{PlanParts, limit_for}
use Rattle.event_history.specs.Plans.{IsElder, is_spare_of, pulls_job, is_same}
use Rattle.event_history.specs.Results.{jobs_of, Ends}
use Rattle.event_history.specs.Exclusion.{HeldConflict}
use Rattle.event_history.specs.Limits.{holds_key, is_running}
use Rattle.event_history.specs.Order.{goes_first, is_opening}

-- whether the start of node n by this worker stands in the list
abbrev pub started_by : ℕ → ℕ → List Event → Bool
started_by n w h = has_event (λ e. is_of Started n e && (e.worker == w)) h

-- how many spares of f are registered in the list
abbrev pub registered_in : PlanParts → List Event → ℕ → ℕ
registered_in p h f = count_below (λ c. is_spare_of p f c && has Registered c h) (size p.tree)

-- the parent of node n has started, and not finished; node 0 has none
pub record IsParentOpen (p : PlanParts) (h : List Event) (n : ℕ) : Type 0 where
  pub parent_started : 0 < n → has Started (parent_of p.tree n) h ≡ true
  pub parent_open : 0 < n → has Finished (parent_of p.tree n) h ≡ false

-- nothing but that it is registered stands for node n, and that does if it is a spare; its parent is open
pub record IsUnopened (p : PlanParts) (h : List Event) (n : ℕ) : Type 0 where
  pub unstarted : has Started n h ≡ false
  pub unskipped : has Skipped n h ≡ false
  pub registered : is_spare_at p.tree n ≡ true → has Registered n h ≡ true
  pub parent : IsParentOpen p h n

pub record MayStart (p : PlanParts) (h : List Event) (n w : ℕ) : Type 0 where
  pub unopened : IsUnopened p h n
  pub enabled : is_disabled p.tree n ≡ false
  pub unknown : p.fail_fast ≡ true → known w (up_to w h) ≤ p.tolerated

pub record MaySkip (p : PlanParts) (h : List Event) (n : ℕ) : Type 0 where
  pub unopened : IsUnopened p h n
  pub reason : (is_disabled p.tree n ≡ true) ⊎ ((p.fail_fast ≡ true) × (p.tolerated < failures h))

-- spare n may be registered: it was not, its elders were, and its parent, a factory with a job, is open
pub record MayRegister (p : PlanParts) (h : List Event) (n : ℕ) : Type 0 where
  pub spare : (is_spare_at p.tree n && pulls_job p (parent_of p.tree n)) ≡ true
  pub fresh : has Registered n h ≡ false
  pub elders : (c : ℕ) → IsElder p.tree c n → has Registered c h ≡ true
  pub parent : IsParentOpen p h n

-- the children of a node that ends: where it is stopped, nothing stands for any of them; else each has finished or was
-- skipped, or is a spare that is not registered
abbrev pub ChildrenOk : PlanParts → List Event → ℕ → Bool → Type 0
ChildrenOk p h a true = (c : ℕ) → IsChild p.tree a c → (k : EventKind) → has k c h ≡ false
ChildrenOk p h a false = (c : ℕ) → IsChild p.tree a c → ((has Finished c h || has Skipped c h) ≡ true) ⊎ ((is_spare_at p.tree c ≡ true) × (has Registered c h ≡ false))

-- the finish e may be drawn
pub record MayFinish (p : PlanParts) (replies : ℕ → List Reply) (h : List Event) (e : Event) : Type 0 where
  pub started : has Started e.node h ≡ true
  pub unfinished : has Finished e.node h ≡ false
  pub status : Status
  pub here : e.status ≡ Some status
  pub stopped : Bool
  pub children : ChildrenOk p h e.node stopped
  pub text : Option (List ℕ)
  pub lawful : Ends replies (jobs_of p e.node) stopped (registered_in p h e.node) status text

-- what the event needs by its kind
abbrev pub ByKind : PlanParts → (ℕ → List Reply) → List Event → Event → EventKind → Type 0
ByKind p replies h e Started = MayStart p h e.node e.worker
ByKind p replies h e Finished = MayFinish p replies h e
ByKind p replies h e Skipped = MaySkip p h e.node
ByKind p replies h e Registered = MayRegister p h e.node

-- the event may follow the history: facts about its node, the parent, the children and the elder siblings alone
pub record MayFollow (p : PlanParts) (replies : ℕ → List Reply) (workers : ℕ) (h : List Event) (e : Event) : Type 0 where
  pub lawful : is_lawful e ≡ true
  pub inside : e.node < size p.tree
  pub by_worker : e.worker ≤ workers
  pub by_kind : ByKind p replies h e e.kind

-- the event keeps the same-thread order: what opens a child finds its elders settled, and its worker started the parent
pub record MayGoNext (p : PlanParts) (h : List Event) (e : Event) : Type 0 where
  pub elders : is_opening e.kind ≡ true → (a : ℕ) → IsElder p.tree a e.node → goes_first p a e.node ≡ true → (has Finished a h || has Skipped a h) ≡ true
  pub by_parent : is_opening e.kind ≡ true → 0 < e.node → is_same p e.node ≡ true → started_by (parent_of p.tree e.node) e.worker h ≡ true

-- a start finds no running node that holds what conflicts with its own locks
abbrev pub MayHold : PlanParts → List Event → Event → Type 0
MayHold p h e = e.kind ≡ Started → (m : ℕ) → has Started m h ≡ true → has Finished m h ≡ false → HeldConflict p m e.node → ⊥

-- how many nodes hold the key once node n has started too
abbrev pub holders_with : PlanParts → List ℕ → List Event → ℕ → ℕ
holders_with p key h n = count_below (λ m. holds_key p key m && ((m == n) || is_running h m)) (size p.tree)

-- with the node that starts no more nodes hold a key than its limit says
abbrev pub MayJoin : PlanParts → List Event → Event → Type 0
MayJoin p h e = e.kind ≡ Started → (key : List ℕ) → 0 < limit_for p key → holders_with p key h e.node ≤ limit_for p key

-- what a drawn event needs
pub record MayBeDrawn (p : PlanParts) (replies : ℕ → List Reply) (workers : ℕ) (h : List Event) (e : Event) : Type 0 where
  pub follows : MayFollow p replies workers h e
  pub next : MayGoNext p h e
  pub holds : MayHold p h e
  pub joins : MayJoin p h e

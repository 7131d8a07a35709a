-- A plan with steps that go round for ever, since two of its nodes want a key in conflict.
use Rattle.std.specs.Prelude.{◌≡◌, ◌≢◌, ℕ, ◌<◌, false, List, [], ◌∷◌, ◌++◌, codes, length, Some, slice_get}
use Rattle.unique_id.specs.declared.unique_id.Segment.{Segment}
use Rattle.descriptor.specs.declared.kind.Kind.TheVariants.{Test, Container}
use Rattle.descriptor.specs.declared.lock.Lock.{Lock}
use Rattle.descriptor.specs.declared.lock_mode.LockMode.TheVariants.{Read, ReadWrite}
use Rattle.descriptor.specs.declared.mode.Mode.{Mode}
use Rattle.descriptor.specs.declared.mode.Mode.TheVariants.{SameThread, Concurrent}
use Rattle.descriptor.specs.declared.node.Node.{Node}
use Rattle.descriptor.specs.Nodes.{Nodes}
use Rattle.descriptor.specs.PlainNodes.{plain}
use Rattle.plan_events.specs.declared.outcome.Reply.{Reply}
use Rattle.plan_events.specs.declared.status.Status.TheVariants.{Successful}
use Rattle.resource_locks.specs.Declarations.{global}
use Rattle.resource_locks.specs.Plans.{PlanParts}
use Rattle.scheduling.specs.declared.status.NodeStatus.TheVariants.{Settled}
use Rattle.scheduling.specs.declared.step.Action.{Action}
use Rattle.scheduling.specs.declared.step.Action.TheVariants.{Claim, Weigh, Take, Give, GiveUp, Draw, Show, Admit, Done}
use Rattle.scheduling.specs.Rows.{Step, Works}
use Rattle.scheduling.specs.Runs.{opening, next, run, AllReplied}
use Rattle.scheduling.specs.State.{State, status_at}
use Rattle.never_stuck.specs.LockedSpare.{reply_at}
use Rattle.never_stuck.specs.Reaching.{only}
use Rattle.termination.specs.Steps.{AllTaken}

-- Taken steps of two workers lead to a state in which the plan is not settled, and from there others lead to it again.
pub record GetsRound (p : PlanParts) : Type 0 where
  pub reply : ℕ → Reply
  pub first : List Step
  pub round : List Step
  pub replied : AllReplied p (only reply) (opening p 2) (first ++ round)
  pub taken : AllTaken p (opening p 2) (first ++ round)
  pub some : 0 < length round
  pub again : run p (opening p 2) (first ++ round) ≡ run p (opening p 2) first
  pub unsettled : status_at (run p (opening p 2) first) 0 ≢ Settled

-- For each number there are more taken steps of two workers: no number bounds them.
abbrev pub HasNoBound : PlanParts → Type 0
HasNoBound p = (reply : ℕ → Reply) × ((most : ℕ) → (list : List Step) × AllReplied p (only reply) (opening p 2) list × AllTaken p (opening p 2) list × (most < length list))

abbrev pub segment : List ℕ → List ℕ → Segment
segment kind value = record { kind = kind; value = value }

abbrev pub engine_id : List Segment
engine_id = segment (codes "engine") (codes "e") ∷ []

abbrev pub db : Lock
db = record { key = codes "db"; mode = ReadWrite }

abbrev pub engine : Node
engine = plain engine_id (codes "e") Container

-- two tests of the engine that declare db
abbrev pub one : Node
one = record (plain (engine_id ++ segment (codes "test") (codes "one") ∷ []) (codes "one") Test) { locks = db ∷ []; body = Some 2 }

abbrev pub other : Node
other = record (plain (engine_id ++ segment (codes "test") (codes "other") ∷ []) (codes "other") Test) { locks = db ∷ []; body = Some 3 }

abbrev pub disputed_tree : Nodes
disputed_tree = record { parents = 0 ∷ 0 ∷ 1 ∷ 1 ∷ []; nodes = engine ∷ one ∷ other ∷ [] }

abbrev pub disputed_modes : List Mode
disputed_modes = SameThread ∷ Concurrent ∷ Concurrent ∷ Concurrent ∷ []

abbrev read_global : Lock
read_global = record { key = global; mode = Read }

-- its plan: both hold db
abbrev pub disputed_plan : PlanParts
disputed_plan = record {
  tree = disputed_tree;
  modes = disputed_modes;
  held = [] ∷ [] ∷ (read_global ∷ db ∷ []) ∷ (read_global ∷ db ∷ []) ∷ [];
  keys = global ∷ codes "db" ∷ [];
  limits = [];
  fail_fast = false;
  tolerated = 0;
}

abbrev pub all_successful : ℕ → Reply
all_successful job = record { pulls = 0; outcome = record { status = Successful; text = [] } }

-- worker w does this, each with the reply that its task awaits
abbrev pub does : PlanParts → (ℕ → Reply) → ℕ → State → List Action → List Step
does p reply w s [] = []
does p reply w s (a ∷ more) = Works w a (reply_at p reply (slice_get s.seats w)) ∷ does p reply w (next p s (Works w a (reply_at p reply (slice_get s.seats w)))) more

-- the plan and the engine start, and the first worker takes the keys of the one test
abbrev pub to_the_key : List Action
to_the_key = Claim 0 ∷ Draw ∷ Show ∷ Admit ∷ Done ∷ Claim 1 ∷ Draw ∷ Show ∷ Admit ∷ Admit ∷ Done ∷ Claim 2 ∷ Weigh ∷ Take ∷ Weigh ∷ Take ∷ []

-- the second one claims the other test, finds db busy and gives the test up
abbrev pub to_and_fro : List Action
to_and_fro = Claim 3 ∷ Weigh ∷ Take ∷ Weigh ∷ Give ∷ GiveUp ∷ []

-- A plan that gets stuck, since a spare of it holds a key.
use Rattle.std.specs.Prelude.{ℕ, ◌==◌, cond, false, List, [], ◌∷◌, ◌++◌, codes, Option, Some, None, slice_get}
use Rattle.unique_id.specs.declared.unique_id.Segment.{Segment}
use Rattle.descriptor.specs.declared.kind.Kind.TheVariants.{Test, Container}
use Rattle.descriptor.specs.declared.lock.Lock.{Lock}
use Rattle.descriptor.specs.declared.lock_mode.LockMode.TheVariants.{Read, ReadWrite}
use Rattle.descriptor.specs.declared.mode.Mode.{Mode}
use Rattle.descriptor.specs.declared.mode.Mode.TheVariants.{SameThread, Concurrent}
use Rattle.descriptor.specs.declared.node.Node.{Node}
use Rattle.descriptor.specs.declared.role.Role.TheVariants.{Factory, Spare}
use Rattle.descriptor.specs.Nodes.{Nodes}
use Rattle.descriptor.specs.PlainNodes.{plain}
use Rattle.plan_events.specs.declared.outcome.Reply.{Reply}
use Rattle.plan_events.specs.declared.status.Status.TheVariants.{Successful}
use Rattle.resource_locks.specs.Declarations.{global}
use Rattle.resource_locks.specs.Plans.{PlanParts}
use Rattle.scheduling.specs.declared.seat.Seat.{Seat}
use Rattle.scheduling.specs.declared.step.Action.{Action}
use Rattle.scheduling.specs.declared.step.Action.TheVariants.{Claim, Weigh, Take, Draw, Show, Admit, AddChild, Done}
use Rattle.scheduling.specs.Rows.{Step, Works}
use Rattle.scheduling.specs.Runs.{opening, next, run, AllReplied}
use Rattle.scheduling.specs.State.{State}
use Rattle.never_stuck.specs.Reaching.{reply_by, answer, only, IsEnded}

-- from these steps of one worker no further ones lead to the end
pub record GetsStuck (p : PlanParts) : Type 0 where
  pub reply : ℕ → Reply
  pub list : List Step
  pub replied : AllReplied p (only reply) (opening p 1) list
  pub never : (more : List Step) → IsEnded p (run p (opening p 1) (list ++ more)) → ⊥

abbrev segment : List ℕ → List ℕ → Segment
segment kind value = record { kind = kind; value = value }

abbrev engine_id : List Segment
engine_id = segment (codes "engine") (codes "e") ∷ []

abbrev pub db : Lock
db = record { key = codes "db"; mode = ReadWrite }

abbrev pub engine : Node
engine = plain engine_id (codes "e") Container

abbrev pub class : Node
class = record (plain (engine_id ++ segment (codes "class") (codes "X") ∷ []) (codes "X") Container) { locks = db ∷ [] }

abbrev pub test : Node
test = record (plain (engine_id ++ segment (codes "class") (codes "X") ∷ segment (codes "method") (codes "t") ∷ []) (codes "t") Test) { body = Some 3 }

abbrev pub factory : Node
factory = record (plain (engine_id ++ segment (codes "class") (codes "F") ∷ []) (codes "F") Container) { role = Factory; body = Some 4 }

abbrev pub spare : Node
spare = record (plain (engine_id ++ segment (codes "class") (codes "F") ∷ segment (codes "method") (codes "s") ∷ []) (codes "s") Test) { role = Spare; locks = db ∷ []; body = Some 5 }

-- an engine; in it a class that declares db, with a test; and a factory, with a spare that declares db, too
abbrev pub locked_tree : Nodes
locked_tree = record { parents = 0 ∷ 0 ∷ 1 ∷ 2 ∷ 1 ∷ 4 ∷ []; nodes = engine ∷ class ∷ test ∷ factory ∷ spare ∷ [] }

abbrev pub locked_modes : List Mode
locked_modes = SameThread ∷ Concurrent ∷ Concurrent ∷ SameThread ∷ Concurrent ∷ SameThread ∷ []

abbrev read_global : Lock
read_global = record { key = global; mode = Read }

-- its plan: the class and the spare hold db
abbrev pub locked_plan : PlanParts
locked_plan = record {
  tree = locked_tree;
  modes = locked_modes;
  held = [] ∷ [] ∷ (read_global ∷ db ∷ []) ∷ [] ∷ (read_global ∷ []) ∷ (db ∷ []) ∷ [];
  keys = global ∷ codes "db" ∷ [];
  limits = [];
  fail_fast = false;
  tolerated = 0;
}

-- the factory's body asks for one spare, and all bodies are successful
abbrev pub asks_for_one : ℕ → Reply
asks_for_one job = record { pulls = cond (job == 4) 1 0; outcome = record { status = Successful; text = [] } }

abbrev pub reply_at : PlanParts → (ℕ → Reply) → Option Seat → Reply
reply_at p reply None = reply_by reply None
reply_at p reply (Some seat) = answer p reply seat

-- the first worker does this, each with the reply that its task awaits
abbrev pub does : PlanParts → (ℕ → Reply) → State → List Action → List Step
does p reply s [] = []
does p reply s (a ∷ more) = Works 0 a (reply_at p reply (slice_get s.seats 0)) ∷ does p reply (next p s (Works 0 a (reply_at p reply (slice_get s.seats 0)))) more

-- the plan and the engine start; the class takes db and leaves its test to its worker; this takes the factory in hand, which then
-- waits for the spare
abbrev pub to_the_dead_end : List Action
to_the_dead_end =
    Claim 0 ∷ Draw ∷ Show ∷ Admit ∷ Done
    ∷ Claim 1 ∷ Draw ∷ Show ∷ Admit ∷ Admit ∷ Done
    ∷ Claim 2 ∷ Weigh ∷ Take ∷ Weigh ∷ Take ∷ Draw ∷ Show ∷ Admit ∷ Done
    ∷ Claim 4 ∷ Weigh ∷ Take ∷ Draw ∷ Show
    ∷ AddChild ∷ Draw ∷ Show ∷ Admit ∷ []

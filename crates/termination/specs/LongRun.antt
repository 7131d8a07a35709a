-- A plan of which one worker and the dispatcher take nearly as many steps as there are at most.
use Rattle.std.specs.Prelude.{◌≡◌, ℕ, false, List, [], ◌∷◌, ◌++◌, codes, length, replicate}
use Rattle.descriptor.specs.declared.kind.Kind.TheVariants.{Container}
use Rattle.descriptor.specs.declared.lock.Lock.{Lock}
use Rattle.descriptor.specs.declared.lock_mode.LockMode.TheVariants.{Read}
use Rattle.descriptor.specs.declared.mode.Mode.{Mode}
use Rattle.descriptor.specs.declared.mode.Mode.TheVariants.{SameThread}
use Rattle.descriptor.specs.declared.node.Node.{Node}
use Rattle.descriptor.specs.Nodes.{Nodes}
use Rattle.descriptor.specs.PlainNodes.{plain}
use Rattle.plan_events.specs.declared.outcome.Reply.{Reply}
use Rattle.resource_locks.specs.Declarations.{global}
use Rattle.resource_locks.specs.Plans.{PlanParts}
use Rattle.scheduling.specs.declared.status.NodeStatus.TheVariants.{Settled}
use Rattle.scheduling.specs.declared.step.Action.{Action}
use Rattle.scheduling.specs.declared.step.Action.TheVariants.{Claim, Own, Weigh, Take, Give, Draw, Show, Admit, Done, Settle, Look}
use Rattle.scheduling.specs.Rows.{Step, Dispatches}
use Rattle.scheduling.specs.Runs.{opening, run, AllReplied}
use Rattle.scheduling.specs.State.{status_at}
use Rattle.never_stuck.specs.Reaching.{only}
use Rattle.termination.specs.Round.{segment, engine_id, engine, db, all_successful, does}
use Rattle.termination.specs.Steps.{AllTaken}

-- One worker and the dispatcher take so many steps, after which the plan is settled.
pub record Takes (p : PlanParts) (steps : ℕ) : Type 0 where
  pub reply : ℕ → Reply
  pub list : List Step
  pub replied : AllReplied p (only reply) (opening p 1) list
  pub taken : AllTaken p (opening p 1) list
  pub many : length list ≡ steps
  pub settled : status_at (run p (opening p 1) list) 0 ≡ Settled

-- a class of this name, that declares db
abbrev class : List ℕ → Node
class name = record (plain (engine_id ++ segment (codes "class") name ∷ []) name Container) { locks = db ∷ [] }

-- an engine with three classes
abbrev pub long_tree : Nodes
long_tree = record { parents = 0 ∷ 0 ∷ 1 ∷ 1 ∷ 1 ∷ []; nodes = engine ∷ class (codes "a") ∷ class (codes "b") ∷ class (codes "c") ∷ [] }

abbrev pub long_modes : List Mode
long_modes = SameThread ∷ SameThread ∷ SameThread ∷ SameThread ∷ SameThread ∷ []

abbrev read_global : Lock
read_global = record { key = global; mode = Read }

-- its plan: each class holds two keys
abbrev pub long_plan : PlanParts
long_plan = record {
  tree = long_tree;
  modes = long_modes;
  held = [] ∷ [] ∷ (read_global ∷ db ∷ []) ∷ (read_global ∷ db ∷ []) ∷ (read_global ∷ db ∷ []) ∷ [];
  keys = global ∷ codes "db" ∷ [];
  limits = [];
  fail_fast = false;
  tolerated = 0;
}

-- a class takes its keys, starts, gives its guard up, finishes, gives the keys back, and is settled
abbrev of_a_class : List Action
of_a_class = Weigh ∷ Take ∷ Weigh ∷ Take ∷ Draw ∷ Show ∷ Done ∷ Draw ∷ Show ∷ Give ∷ Give ∷ Settle ∷ []

-- the next one is looked for, and offered
abbrev to_the_next : List Action
to_the_next = Look ∷ Admit ∷ Done ∷ []

abbrev pub to_the_end : List Action
to_the_end =
    (Claim 0 ∷ Draw ∷ Show ∷ Admit ∷ Done ∷ Own 1 ∷ Draw ∷ Show ∷ Admit ∷ Done ∷ Own 2 ∷ of_a_class)
    ++ (to_the_next ++ (Own 3 ∷ of_a_class))
    ++ (to_the_next ++ (Own 4 ∷ of_a_class))
    ++ (Done ∷ Draw ∷ Show ∷ Settle ∷ Done ∷ Draw ∷ Show ∷ Settle ∷ [])

-- these steps, and then all ten events are given
abbrev pub long_list : List Step
long_list = does long_plan all_successful 0 (opening long_plan 1) to_the_end ++ replicate 10 Dispatches

-- What a worker does in its turn, where workers take turns.
use Rattle.std.specs.Prelude.{◌≡◌, ℕ, ◌≤◌, ◌<◌, Bool, true, false, ◌==◌, Option, Some, None}
use Rattle.descriptor.specs.Nodes.{size}
use Rattle.plan_events.specs.declared.outcome.Reply.{Reply}
use Rattle.resource_locks.specs.Plans.{PlanParts}
use Rattle.scheduling.specs.declared.status.NodeStatus.{NodeStatus}
use Rattle.scheduling.specs.declared.status.NodeStatus.TheVariants.{Ready}
use Rattle.scheduling.specs.declared.task.Opening.TheVariants.{Noticing, Locking, Weighed, Backing}
use Rattle.scheduling.specs.declared.task.Task.{Task}
use Rattle.scheduling.specs.declared.task.Task.TheVariants.{Free, Opens, Closes}
use Rattle.scheduling.specs.declared.seat.Hand.{Hand}
use Rattle.scheduling.specs.declared.step.Action.{Action}
use Rattle.scheduling.specs.declared.step.Action.TheVariants.{Own}
use Rattle.scheduling.specs.Choices.{keys_count, key_at, mode_at, admits_at}
use Rattle.scheduling.specs.Schedule.{taking, hand_action, opening_action, closing_action}
use Rattle.scheduling.specs.State.{State, status_at, lock_at}

-- whether the worker at place w may take a node that is there: it is offered to any, or to it
abbrev pub is_offered_to : ℕ → NodeStatus → Bool
is_offered_to w (Ready None) = true
is_offered_to w (Ready (Some v)) = v == w
is_offered_to w _ = false

-- the keys of node n from this place on may be taken
abbrev pub AreFreeFrom : PlanParts → State → ℕ → ℕ → Type 0
AreFreeFrom p s n i = (j : ℕ) → i ≤ j → j < keys_count p n → admits_at p n j (lock_at s (key_at p n j)) ≡ true

-- the worker at place w may take node n, and all its keys
pub record MayTake (p : PlanParts) (s : State) (w n : ℕ) : Type 0 where
  pub offered : is_offered_to w (status_at s n) ≡ true
  pub free : AreFreeFrom p s n 0

-- it is the first such node
pub record IsFirstToTake (p : PlanParts) (s : State) (w n : ℕ) : Type 0 where
  pub inside : n < size p.tree
  pub may : MayTake p s w n
  pub first : (m : ℕ) → m < n → MayTake p s w m → ⊥

-- What a free worker does, if anything: with nothing in hand it takes the first node that it may.
abbrev pub NextNode : PlanParts → State → ℕ → Option Action → Type 0
NextNode p s w None = (n : ℕ) → n < size p.tree → MayTake p s w n → ⊥
NextNode p s w (Some a) = (n : ℕ) × IsFirstToTake p s w n × (a ≡ taking (status_at s n) n)

-- With a factory in hand it takes the dynamic test that this waits for, or goes on with it.
abbrev pub NextWaited : PlanParts → State → ℕ → Option Action → Type 0
NextWaited p s c None = AreFreeFrom p s c 0 → ⊥
NextWaited p s c (Some a) = AreFreeFrom p s c 0 × (a ≡ Own c)

abbrev pub NextWaiting : PlanParts → State → Reply → Hand → Option ℕ → Option Action → Type 0
NextWaiting p s reply hand None found = found ≡ Some (hand_action p reply hand)
NextWaiting p s reply hand (Some c) found = NextWaited p s c found

abbrev pub NextFree : PlanParts → State → ℕ → Reply → Option Hand → Option Action → Type 0
NextFree p s w reply None found = NextNode p s w found
NextFree p s w reply (Some hand) found = NextWaiting p s reply hand hand.waiting found

-- What the worker at place w does whose task is decided, if anything.
abbrev pub NextInTurn : PlanParts → State → ℕ → Reply → Option Hand → Task → Option Action → Type 0
NextInTurn p s w reply hand Free found = NextFree p s w reply hand found
NextInTurn p s w reply hand (Opens n d) found = found ≡ Some (opening_action d)
NextInTurn p s w reply hand (Closes n d) found = found ≡ Some (closing_action d)

-- whether a worker with this task takes keys, or is about to
abbrev pub takes_keys : Task → Bool
takes_keys (Opens n Noticing) = true
takes_keys (Opens n (Locking i)) = true
takes_keys (Opens n (Weighed i word)) = true
takes_keys (Opens n (Backing i)) = true
takes_keys _ = false

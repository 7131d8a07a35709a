-- What a turn leaves. Only private functions and proofs need this file.
use Rattle.std.specs.Prelude.{◌≡◌, ℕ, ◌+◌, ◌<◌, ◌≤◌, true, List, length, Option, Some, None}
use Rattle.descriptor.specs.Nodes.{size}
use Rattle.plan_events.specs.declared.outcome.Reply.{Reply}
use Rattle.resource_locks.specs.Plans.{PlanParts}
use Rattle.scheduling.specs.declared.status.NodeStatus.TheVariants.{Settled}
use Rattle.scheduling.specs.declared.step.Step.{Step}
use Rattle.scheduling.specs.Choices.{key_at, mode_at, admits_at}
use Rattle.scheduling.specs.Rows.{read_row}
use Rattle.scheduling.specs.State.{State, status_at, lock_at}
use Rattle.termination.specs.Inside.Accounts.{steps_left}
use Rattle.termination.specs.Turns.{MayTake, IsFirstToTake}
use Rattle.sched_core.specs.InTurns.{IsIdle}
use Rattle.sched_core.specs.Runs.{run, passed_over}

-- the first so many keys of node n may be taken
abbrev pub AreFreeBelow : PlanParts → State → ℕ → ℕ → Type 0
AreFreeBelow p s n i = (j : ℕ) → j < i → admits_at p n j (lock_at s (key_at p n j)) ≡ true

-- none of the first so many nodes may be taken by the worker at place w
abbrev pub NoneFoundBelow : PlanParts → State → ℕ → ℕ → Type 0
NoneFoundBelow p s w k = (n : ℕ) → n < k → MayTake p s w n → ⊥

-- the first node that the worker at place w may take, or there is none
abbrev pub IsFoundFor : PlanParts → State → ℕ → Option ℕ → Type 0
IsFoundFor p s w None = (n : ℕ) → n < size p.tree → MayTake p s w n → ⊥
IsFoundFor p s w (Some n) = IsFirstToTake p s w n

-- The worker at place w has nothing to do, nor is there anything to be read.
abbrev pub IsQuiet : PlanParts → List (ℕ × Reply) → State → ℕ → Type 0
IsQuiet p answers s w = (read_row s ≡ None) × IsIdle p answers s w

-- The run is over: the plan's node is settled, and there is nothing to be read.
abbrev pub IsOver : State → Type 0
IsOver s = (read_row s ≡ None) × (status_at s 0 ≡ Settled)

-- Steps of which none is passed over lead from the one state to the other, and each leaves less to do.
pub record Leads (p : PlanParts) (answers : List (ℕ × Reply)) (s t : State) : Type 0 where
  pub steps : List Step
  pub is : run p answers s steps ≡ t
  pub all : passed_over p answers s steps ≡ 0
  pub less : length steps + steps_left p t ≤ steps_left p s

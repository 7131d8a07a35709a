-- That a state of the core is one that a run comes to, and a history one of a run: steps from the plan's first state lead there, each with the
-- reply that its job gives.
use Rattle.std.specs.Prelude.{◌≡◌, ℕ, List, [], ◌∷◌, Some, slice_get}
use Rattle.plan_events.specs.declared.event.Event.{Event}
use Rattle.plan_events.specs.declared.outcome.Reply.{Reply}
use Rattle.resource_locks.specs.Plans.{PlanParts}
use Rattle.scheduling.specs.Rows.{Step}
use Rattle.scheduling.specs.Runs.{opening, run}
use Rattle.scheduling.specs.State.{State}
use Rattle.never_stuck.specs.Inside.Progress.{endless}
use Rattle.never_stuck.specs.Reaching.{AllGiven, MayReply, Reaches}

-- the reply of each job by now: what it told; until it has, one that asks for more dynamic tests than any factory has
abbrev pub or_endless : List Reply → Reply
or_endless [] = endless 0
or_endless (reply ∷ more) = reply

abbrev pub by_now : (told : ℕ → List Reply) → ℕ → Reply
by_now told job = or_endless (told job)

-- Whatever the jobs reply that have not answered yet, as far as may be: steps of the core lead there from its first state. So of a job that
-- has answered each step has just that answer; and a factory whose dynamic tests are being registered will have asked for as many.
-- There are such replies: no job has asked for fewer dynamic tests than were registered of its factory, while that is in hand.
pub record IsReached (p : PlanParts) (workers : ℕ) (told : ℕ → List Reply) (s : State) : Type 0 where
  pub may : MayReply p told s (by_now told)
  pub from : (reply : ℕ → Reply) → MayReply p told s reply → Reaches p reply (opening p workers) s

-- the reply of each job that has answered is what it told
abbrev pub Agrees : (told : ℕ → List Reply) → (ℕ → Reply) → Type 0
Agrees told reply = (job i : ℕ) (r : Reply) → slice_get (told job) i ≡ Some r → reply job ≡ r

-- The history of a run of the core by so many workers: from the plan's first state these steps, each with the reply that its job gives, lead to
-- one in which just these events are drawn, and all of them are given.
pub record IsHistoryOfRun (p : PlanParts) (workers : ℕ) (reply : ℕ → Reply) (events : List Event) : Type 0 where
  pub steps : List Step
  pub replied : AllGiven p reply (opening p workers) steps
  pub drawn : (run p (opening p workers) steps).published ≡ events
  pub given : (run p (opening p workers) steps).given ≡ events

-- The events are those of a run of the core in which each job replies what it told, whatever those would reply that told nothing.
abbrev pub IsRunOfCore : PlanParts → (workers : ℕ) → (told : ℕ → List Reply) → List Event → Type 0
IsRunOfCore p workers told events = (reply : ℕ → Reply) → Agrees told reply → IsHistoryOfRun p workers reply events

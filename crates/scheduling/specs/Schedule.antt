-- The fixed schedule of one worker: which step it takes next, by its task, which is decided, and by the factory in its hand.
use Rattle.std.specs.Prelude.{◌≡◌, ◌≢◌, ℕ, zero, suc, ◌<◌, Bool, true, false, ◌&&◌, ◌==◌, nat_lt, cond, Option, Some, None, slice_get}
use Rattle.std.specs.Option.{is_some}
use Rattle.plan_events.specs.declared.outcome.Reply.{Reply}
use Rattle.resource_locks.specs.Plans.{PlanParts}
use Rattle.scheduling.specs.declared.status.NodeStatus.{NodeStatus}
use Rattle.scheduling.specs.declared.status.NodeStatus.TheVariants.{Ready, Settled}
use Rattle.scheduling.specs.declared.task.Opening.{Opening}
use Rattle.scheduling.specs.declared.task.Opening.TheVariants.{Registering, RegisteredAt, Offering, Noticing, Locking, Weighed, Backing, Beginning, StartedAt, Awaiting, Admitting, Guarding}
use Rattle.scheduling.specs.declared.task.Closing.{Closing}
use Rattle.scheduling.specs.declared.task.Closing.TheVariants.{AwaitingAfter, Ending, FinishedAt, SkippedAt, Raising, Giving, Settling, Looking, Passing, CountingOff}
use Rattle.scheduling.specs.declared.task.Task.{Task}
use Rattle.scheduling.specs.declared.task.Task.TheVariants.{Free, Opens, Closes}
use Rattle.scheduling.specs.declared.seat.Hand.{Hand}
use Rattle.scheduling.specs.declared.seat.Seat.{Seat}
use Rattle.scheduling.specs.State.{State, status_at}
use Rattle.scheduling.specs.Choices.{next_spare}
use Rattle.scheduling.specs.declared.step.Action.{Action}
use Rattle.scheduling.specs.declared.step.Action.TheVariants.{Claim, Own, Notice, Weigh, Take, Give, GiveUp, Draw, Show, Admit, AddChild, Done, Settle, Look, Raise}
use Rattle.scheduling.specs.Rows.{read_row, Works, decided_seat, after}

-- whether the only worker may take a node that is there: it is offered to any, or to it
abbrev pub is_open : NodeStatus → Bool
is_open (Ready None) = true
is_open (Ready (Some w)) = w == 0
is_open _ = false

-- the node is open, and none before it is
pub record IsFirstOpen (s : State) (n : ℕ) : Type 0 where
  pub open_here : is_open (status_at s n) ≡ true
  pub first : (m : ℕ) → m < n → is_open (status_at s m) ≡ false

-- how it takes it
abbrev pub taking : NodeStatus → ℕ → Action
taking (Ready (Some w)) n = Own n
taking _ n = Claim n

-- with a factory in hand: the spare that it waits for, else the next spare, where the reply has one more pull, else it is done
abbrev pub may_add : PlanParts → Reply → Hand → Bool
may_add p reply hand = nat_lt hand.registered reply.pulls && is_some (next_spare p hand.factory hand.registered)

abbrev pub action_waiting : PlanParts → Reply → Hand → Option ℕ → Action
action_waiting p reply hand (Some c) = Own c
action_waiting p reply hand None = cond (may_add p reply hand) AddChild Done

abbrev pub hand_action : PlanParts → Reply → Hand → Action
hand_action p reply hand = action_waiting p reply hand hand.waiting

-- the one step that a task allows that is decided and not free
abbrev pub opening_action : Opening → Action
opening_action Registering = Draw
opening_action (RegisteredAt i) = Show
opening_action Offering = Admit
opening_action Noticing = Notice
opening_action (Locking i) = Weigh
opening_action (Weighed i word) = Take
opening_action (Backing zero) = GiveUp
opening_action (Backing (suc i)) = Give
opening_action (Beginning skip) = Draw
opening_action (StartedAt i) = Show
opening_action Awaiting = Look
opening_action (Admitting c) = Admit
opening_action Guarding = Done

abbrev pub closing_action : Closing → Action
closing_action AwaitingAfter = Look
closing_action (Ending status) = Draw
closing_action (FinishedAt i status) = Show
closing_action (SkippedAt i) = Show
closing_action Raising = Raise
closing_action (Giving i) = Give
closing_action Settling = Settle
closing_action (Looking m) = Look
closing_action (Passing m o) = Admit
closing_action CountingOff = Done

-- The only worker, whose task is decided, takes this step next.
abbrev pub IsNextFree : PlanParts → State → Reply → Option Hand → Action → Type 0
IsNextFree p s reply None a = (n : ℕ) × IsFirstOpen s n × (a ≡ taking (status_at s n) n)
IsNextFree p s reply (Some hand) a = a ≡ hand_action p reply hand

abbrev pub IsNextBy : PlanParts → State → Reply → Option Hand → Task → Action → Type 0
IsNextBy p s reply hand Free a = IsNextFree p s reply hand a
IsNextBy p s reply hand (Opens n d) a = a ≡ opening_action d
IsNextBy p s reply hand (Closes n d) a = a ≡ closing_action d

abbrev pub IsNext : PlanParts → State → Seat → Reply → Action → Type 0
IsNext p s seat reply a = IsNextBy p s reply seat.hand seat.task a

-- From the one state the schedule ends in the other: what is shown is read first, and the worker's next step has the reply
-- that its task is answered.
pub data Drives (p : PlanParts) (answered : State → Seat → Reply) : State → State → Type 0 where
  finished : {s : State} → read_row s ≡ None → status_at s 0 ≡ Settled → Drives p answered s s
  reads : {s t u : State} → read_row s ≡ Some t → Drives p answered t u → Drives p answered s u
  works : {s t u : State} → (seat : Seat) (a : Action) → read_row s ≡ None → status_at s 0 ≢ Settled → slice_get s.seats 0 ≡ Some seat → IsNext p s (decided_seat p (answered s seat) seat) (answered s seat) a
      → after p s (Works 0 a (answered s seat)) ≡ Some t → Drives p answered t u → Drives p answered s u

-- what has run so far, for proofs: wherever the schedule ends from s, it ends from the first state
abbrev pub LeadsTo : PlanParts → (State → Seat → Reply) → State → State → Type 0
LeadsTo p answered first s = (u : State) → Drives p answered s u → Drives p answered first u

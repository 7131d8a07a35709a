-- What a trace tells of a run.
use Rattle.std.specs.Prelude.{◌≡◌, ℕ, ◌+◌, ◌<◌, true, false, List, length, map, Some, slice_get, Vec}
use Rattle.std.specs.declared.alloc.Global.{Global}
use Rattle.plan_events.specs.declared.event.Event.{Event}
use Rattle.plan_events.specs.declared.outcome.Reply.{Reply}
use Rattle.resource_locks.specs.Plans.{PlanParts}
use Rattle.sched_core.specs.declared.trace.Trace.{Trace}
use Rattle.descriptor.specs.Nodes.{size}
use Rattle.resource_locks.specs.Declarations.{declared_of}
use Rattle.resource_locks.specs.Hoisted.{IsGuarded}
use Rattle.event_history.specs.Apart.{IsApart}
use Rattle.event_history.specs.Expected.{expected, IsAsExpected}
use Rattle.event_history.specs.History.{IsLegal, IsComplete}
use Rattle.event_history.specs.Order.{IsInOrder}
use Rattle.event_history.specs.Plans.{is_same}
use Rattle.event_history.specs.Parts.{part_of, EndsInPlan}
use Rattle.scheduling.specs.State.{State}
use Rattle.scheduling.specs.Runs.{opening}
use Rattle.scheduling.specs.Shown.{IsShown}
use Rattle.sched_core.specs.Replies.{reply_of, replies_of}
use Rattle.sched_core.specs.Runs.{IsRight}
use Rattle.sched_core.specs.Drives.{Drives}

-- the lists in a vector of vectors
abbrev pub lists_of : Vec (Vec Event Global) Global → List (List Event)
lists_of v = map (λ w. w.items) v.items

-- the trace of a run that is in this state and has passed over so many steps
pub record IsTraceOf (s : State) (passed_over : ℕ) (t : Trace) : Type 0 where
  pub published : t.published.items ≡ s.published
  pub given : t.given.items ≡ s.given
  -- a list for each worker: its part
  pub lists : length (lists_of t.mine) ≡ length s.seats
  pub mine : (w : ℕ) → w < length s.seats → slice_get (lists_of t.mine) w ≡ Some (part_of (w + 1) s.published)
  pub passed_over_is : t.passed_over ≡ passed_over

-- the headline, of a trace
abbrev pub IsRightTrace : PlanParts → List (ℕ × Reply) → ℕ → Trace → Type 0
IsRightTrace p answers workers t = IsRight p answers workers t.published.items t.given.items (lists_of t.mine)

-- the trace of the fixed schedule, none of whose steps is passed over
pub record IsDriven (p : PlanParts) (answers : List (ℕ × Reply)) (t : Trace) : Type 0 where
  pub final : State
  pub drives : Drives p answers (opening p 1) final
  pub trace : IsTraceOf final 0 t

-- it is the trace of whatever state the fixed schedule ends in: the schedule is deterministic
abbrev pub IsOnlyDriven : PlanParts → List (ℕ × Reply) → Trace → Type 0
IsOnlyDriven p answers t = (final : State) → Drives p answers (opening p 1) final → IsTraceOf final 0 t

-- What was given was shown, in each state in which the fixed schedule ends.
abbrev pub IsShownAtEnd : PlanParts → List (ℕ × Reply) → Trace → Type 0
IsShownAtEnd p answers t = (final : State) → Drives p answers (opening p 1) final → IsShown final t.given.items

-- What locks and isolation keep apart never overlaps, where the plan holds for its nodes what they declare.
abbrev pub KeepsApart : PlanParts → Trace → Type 0
KeepsApart p t = IsGuarded (declared_of p.tree) p → IsApart p t.published.items

-- Results do not depend on the workers: in a plan that does not fail fast, each node of a complete history has the result that
-- is expected of it.
abbrev pub HasExpected : PlanParts → List (ℕ × Reply) → Trace → Type 0
HasExpected p answers t = p.fail_fast ≡ false → IsComplete p t.published.items → (n : ℕ) → n < size p.tree → IsAsExpected p (replies_of answers) t.published.items n (expected p (reply_of answers) n)

-- Where each node runs in the thread of its parent, it is the only complete legal history of one worker in same-thread order.
abbrev pub IsOnlyHistory : PlanParts → List (ℕ × Reply) → Trace → Type 0
IsOnlyHistory p answers t = ((n : ℕ) → n < size p.tree → is_same p n ≡ true) → (h : List Event) → IsLegal p (replies_of answers) 1 h → IsInOrder p h → IsComplete p h → h ≡ t.published.items

-- a trace of the whole plan: complete, ending in the plan's finish, and all of it given
pub record IsWhole (p : PlanParts) (t : Trace) : Type 0 where
  pub complete : IsComplete p t.published.items
  pub ends : EndsInPlan t.published.items
  pub given : t.given.items ≡ t.published.items

-- What the schedule of one worker leaves: its own trace, and no other; of the whole plan, also where spares hold keys; and, where each
-- node runs in the thread of its parent, of the only history.
pub record IsOfOneWorker (p : PlanParts) (answers : List (ℕ × Reply)) (t : Trace) : Type 0 where
  pub driven : IsDriven p answers t
  pub only : IsOnlyDriven p answers t
  pub shown : IsShownAtEnd p answers t
  pub whole : IsWhole p t
  pub only_history : IsOnlyHistory p answers t

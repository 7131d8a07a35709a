-- A run as its dispatcher sees it: when it may begin, and what is known once it is over.
use Rattle.std.specs.Prelude.{◌≡◌, List, vec_capacity}
use Rattle.plan_events.specs.declared.outcome.Reply.{Reply}
use Rattle.resource_locks.specs.Plans.{PlanParts}
use Rattle.listeners.specs.Listeners.{Telling}
use Rattle.run_table.specs.Handles.{dispatcher_at, plan_at, view_at}
use Rattle.run_table.specs.Seats.{IsOf}
use Rattle.thread_pool.specs.Seeing.{HasSeenSince}
use Rattle.thread_pool.specs.Telling.{IsNoted, IsOver, KeepsTexts}
use Rattle.thread_pool.specs.declared.running.DispatcherState.{DispatcherState}

module _ {B : Type 0} (answers : B → List Reply) where
  -- what was read is in the dispatcher's list, which has room for what is left, and its texts are kept
  pub record IsReady (state : DispatcherState B) : Type 0 where
    pub texts : KeepsTexts answers (view_at state.seat.seat) state.texts
    pub noted : IsNoted (view_at state.seat.seat) state.events.items (vec_capacity state.events)

  -- The plan's finish was read, and all that was read is in its list, with its texts. The observer has seen what was read since.
  pub record HasRun {O : Type 0} (saw : PlanParts → O → O → List Telling → Type 0) (before after : DispatcherState B) (was now : O) : Type 0 where
    pub same : IsOf before.seat.seat after.seat.seat
    pub noted : after.events.items ≡ (dispatcher_at after.seat.seat).read
    pub seen : HasSeenSince saw (plan_at before.seat.seat) after.texts (dispatcher_at before.seat.seat).read (dispatcher_at after.seat.seat).read was now
    pub texts : KeepsTexts answers (view_at after.seat.seat) after.texts
    pub over : IsOver (dispatcher_at after.seat.seat).read

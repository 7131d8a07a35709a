-- What every state has that a run reaches.
use Rattle.std.specs.Prelude.{◌≡◌, ℕ, ◌<◌, List, length}
use Rattle.plan_events.specs.declared.outcome.Reply.{Reply}
use Rattle.resource_locks.specs.Plans.{PlanParts}
use Rattle.scheduling.specs.State.{State}
use Rattle.scheduling.specs.Shown.{IsPlaced}
use Rattle.scheduling.specs.Inside.Invariant.{IsKept}
use Rattle.never_stuck.specs.Inside.Progress.{IsOn}

pub record IsLive (p : PlanParts) (replies : ℕ → List Reply) (reply : ℕ → Reply) (s : State) : Type 0 where
  pub kept : IsKept p replies s
  pub on : IsOn p reply s
  pub placed : IsPlaced s
  -- each key has a word
  pub locks : length s.locks ≡ length p.keys
  -- there is a worker
  pub some : 0 < length s.seats

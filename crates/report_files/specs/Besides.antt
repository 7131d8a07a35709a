-- What two have seen who watch one run.
use Rattle.std.specs.Prelude.{◌≡◌, List}
use Rattle.resource_locks.specs.Plans.{PlanParts}
use Rattle.listeners.specs.Listeners.{Telling}
use Rattle.report_files.specs.declared.beside.Beside.{Beside}
use Rattle.listeners.specs.Observing.{HasSeenMore}

module _ {V B : Type 0} (saw : PlanParts → V → V → List Telling → Type 0) (beside : PlanParts → B → B → List Telling → Type 0) where
  -- both, who are still the same, have seen these events, whoever each was at first
  pub record BothSaw (p : PlanParts) (first now : Beside V B) (ts : List Telling) : Type 0 where
    pub same : now.observer.ghost_name ≡ first.observer.ghost_name
    pub same_other : now.other.ghost_name ≡ first.other.ghost_name
    pub seen : HasSeenMore saw p ts first.observer.now now.observer.now
    pub other : HasSeenMore beside p ts first.other.now now.other.now

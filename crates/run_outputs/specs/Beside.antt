-- What a feed has printed of a run, and what one has seen who watches the run beside it.
use Rattle.std.specs.Prelude.{◌≡◌, ℕ, List, Option}
use Rattle.resource_locks.specs.Plans.{PlanParts}
use Rattle.listeners.specs.Listeners.{Telling}
use Rattle.live.specs.LiveFeeds.{IsPrinted}
use Rattle.listeners.specs.Observing.{HasSeenMore}
use Rattle.run_outputs.specs.declared.watched_feed.WatchedFeed.{WatchedFeed}

module _ {W V S : Type 0} (contents : W → Option (List ℕ)) (saw : PlanParts → V → V → List Telling → Type 0) where
  -- the feed has printed these events, and the other, who is still the same, has seen them
  pub record SeesBeside (p : PlanParts) (first now : WatchedFeed W V S) (ts : List Telling) : Type 0 where
    pub printed : IsPrinted contents p first.feed now.feed ts
    pub same : now.observer.ghost_name ≡ first.observer.ghost_name
    pub seen : HasSeenMore saw p ts first.observer.now now.observer.now

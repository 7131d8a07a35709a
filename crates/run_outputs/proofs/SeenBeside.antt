-- One event more is printed by a feed, and seen by one who watches beside it.
use Rattle.std.proofs.Common.{◌≡◌, ◌∙◌, ℕ, List, [], ◌∷◌, ◌++◌, Option, subst, append_assoc}
use Rattle.resource_locks.specs.Plans.{PlanParts}
use Rattle.listeners.specs.Listeners.{Telling}
use Rattle.live.specs.LiveFeeds.{IsPrinted}
use Rattle.listeners.specs.Observing.{HasSeenMore, KeepsSight}
use Rattle.run_outputs.specs.Beside.{SeesBeside}
use Rattle.run_outputs.specs.declared.watched_feed.WatchedFeed.{WatchedFeed}

module _ {W V S : Type 0} (contents : W → Option (List ℕ)) (saw : PlanParts → V → V → List Telling → Type 0) (p : PlanParts) (first old new : WatchedFeed W V S) (before : List Telling) (is : SeesBeside contents saw p first old before) (same : new.observer.ghost_name ≡ old.observer.ghost_name) where
  -- both were shown it
  pub sees_more : (t : Telling) → HasSeenMore (IsPrinted contents) p (t ∷ []) old.feed new.feed → HasSeenMore saw p (t ∷ []) old.observer.now new.observer.now → SeesBeside contents saw p first new (before ++ t ∷ [])
  sees_more t printed seen = record {
    printed = printed first.feed before is.printed;
    same = same ∙ is.same;
    seen = λ who earlier so. subst (saw p who new.observer.now) (append_assoc earlier before (t ∷ [])) (seen who (earlier ++ before) (is.seen who earlier so));
  }

  -- neither was shown anything
  pub sees_as_much : KeepsSight (IsPrinted contents) old.feed new.feed → KeepsSight saw old.observer.now new.observer.now → SeesBeside contents saw p first new before
  sees_as_much printed seen = record {
    printed = printed p first.feed before is.printed;
    same = same ∙ is.same;
    seen = λ who earlier so. seen p who (earlier ++ before) (is.seen who earlier so);
  }

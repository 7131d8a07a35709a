-- What the published history of a run keeps: it is legal, in same-thread order, held locks exclude each other, and limits are kept.
use Rattle.std.proofs.Common.{ℕ, List, [], ◌∷◌, ◌++◌}
use Rattle.plan_events.specs.declared.event.Event.{Event}
use Rattle.plan_events.specs.declared.outcome.Reply.{Reply}
use Rattle.resource_locks.specs.Plans.{PlanParts}
use Rattle.event_history.specs.Plans.{IsPlanTree}
use Rattle.event_history.specs.Inside.Following.{MayBeDrawn}
use Rattle.event_history.specs.Published.{IsPublished}
use Rattle.event_history.proofs.AddedEvent.{legal_added, legal_nil}
use Rattle.event_history.proofs.AddedEventOrder.{order_added, order_nil}
use Rattle.event_history.proofs.AddedEventExclusion.{exclusive_added, exclusive_nil, exclusive_front}
use Rattle.event_history.proofs.Limits.{within_added, within_nil, within_front}
use Rattle.event_history.proofs.Front.{legal_front, order_front}

pub published_nil : (p : PlanParts) (replies : ℕ → List Reply) (workers : ℕ) → IsPublished p replies workers []
published_nil p replies workers = record { legal = legal_nil p replies workers; order = order_nil p; exclusive = exclusive_nil p; within = within_nil p }

pub published_added : (p : PlanParts) → IsPlanTree p.tree → (replies : ℕ → List Reply) (workers : ℕ) (h : List Event) (e : Event) → IsPublished p replies workers h → MayBeDrawn p replies workers h e
    → IsPublished p replies workers (h ++ e ∷ [])
published_added p tree replies workers h e k m = record {
  legal = legal_added p tree replies workers h e k.legal m.follows;
  order = order_added p tree replies workers h e k.legal m.follows k.order m.next;
  exclusive = exclusive_added p h e k.exclusive m.holds;
  within = within_added p h e k.within m.joins;
}

pub published_front : (p : PlanParts) (replies : ℕ → List Reply) (workers : ℕ) (g r : List Event) → IsPublished p replies workers (g ++ r) → IsPublished p replies workers g
published_front p replies workers g r k = record {
  legal = legal_front p replies workers g r k.legal;
  order = order_front p replies workers g r k.legal k.order;
  exclusive = exclusive_front p g r k.exclusive;
  within = within_front p g r k.within;
}

-- There is room for an event that may follow.
use Rattle.std.proofs.Common.{ℕ, ◌<◌, List, [], ◌∷◌, ◌++◌, length, arith, length-append}
use Rattle.plan_events.specs.declared.event.Event.{Event}
use Rattle.plan_events.specs.declared.outcome.Reply.{Reply}
use Rattle.resource_locks.specs.Plans.{PlanParts, most_events}
use Rattle.event_history.specs.Plans.{IsPlanTree}
use Rattle.event_history.specs.History.{IsLegal}
use Rattle.event_history.specs.Inside.Following.{MayFollow}
use Rattle.event_history.proofs.AddedEvent.{legal_added}
use Rattle.event_history.proofs.EventBound.{legal_few}

pub room : (p : PlanParts) → IsPlanTree p.tree → (replies : ℕ → List Reply) (workers : ℕ) (h : List Event) (e : Event) → IsLegal p replies workers h → MayFollow p replies workers h e → length h < most_events p
room p tree replies workers h e legal may =
    let few = legal_few p replies workers (h ++ e ∷ []) (legal_added p tree replies workers h e legal may) in
    omega (arith, few, length-append h (e ∷ []))

-- Each worker's part of what is given begins its part of what is published, and the plan's finish ends a history.
use Rattle.std.proofs.Common.{ℕ, ◌==◌, List, sym, ap, ◌∙◌}
use Rattle.std.proofs.lemmas.List.Elements.{filter-append}
use Rattle.unique_id.specs.Prefixes.{IsPrefix}
use Rattle.plan_events.specs.declared.event.EventKind.TheVariants.{Finished}
use Rattle.plan_events.specs.declared.event.Event.{Event}
use Rattle.plan_events.specs.declared.outcome.Reply.{Reply}
use Rattle.resource_locks.specs.Plans.{PlanParts}
use Rattle.event_history.specs.Plans.{IsPlanTree}
use Rattle.event_history.specs.Places.{StandsAt}
use Rattle.event_history.specs.History.{IsLegal}
use Rattle.event_history.specs.Parts.{part_of, EndsInPlan}
use Rattle.event_history.proofs.Roots.{nothing_after}

pub part_prefix : (w : ℕ) (given all : List Event) → IsPrefix given all → IsPrefix (part_of w given) (part_of w all)
part_prefix w given all first = (part_of w first.0, sym (filter-append (λ (e : Event). e.worker == w) given first.0) ∙ ap (part_of w) first.1)

pub ends_in_plan : (p : PlanParts) → IsPlanTree p.tree → (replies : ℕ → List Reply) (workers : ℕ) (h : List Event) → IsLegal p replies workers h → (i : ℕ) → StandsAt h i Finished 0 → EndsInPlan h
ends_in_plan p tree replies workers h legal i finish = record { place = i; stands = finish; last = nothing_after p tree replies workers h legal i finish }

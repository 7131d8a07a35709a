-- What the headline says of each list of steps, it says of what threads report: by that it is the history of a run of the core, and nothing else.
use Rattle.std.proofs.Common.{◌≡◌, ℕ, ◌≤◌, List, refl}
use Rattle.descriptor.specs.Nodes.{IsTree}
use Rattle.plan_events.specs.declared.event.Event.{Event}
use Rattle.plan_events.specs.declared.outcome.Reply.{Reply}
use Rattle.resource_locks.specs.Plans.{PlanParts}
use Rattle.scheduling.specs.Runs.{opening, run, IsRight}
use Rattle.scheduling.specs.State.{State}
use Rattle.scheduling.proofs.Headline.{headline}
use Rattle.never_stuck.specs.Reaching.{only}
use Rattle.never_stuck.proofs.Reach.{replied_all}
use Rattle.table_rule.specs.Reached.{Agrees, IsRunOfCore}

pub headlined : (p : PlanParts) → IsTree p.tree → (workers : ℕ) → workers ≤ 64 → (told : ℕ → List Reply) (events : List Event) → IsRunOfCore p workers told events → (reply : ℕ → Reply) → Agrees told reply
    → (s : State) × (s.published ≡ events) × (s.given ≡ events) × IsRight p (only reply) workers s
headlined p tree workers few told events ran reply agrees =
    let x = ran reply agrees in
    (run p (opening p workers) x.steps, x.drawn, x.given, headline p tree (only reply) workers few x.steps (replied_all p reply (only reply) (λ job. refl) (opening p workers) x.steps x.replied))

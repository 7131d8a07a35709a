-- There is a reply of each job that agrees with what the jobs told: so what is a run of the core is the history of one.
use Rattle.std.proofs.Common.{ℕ, List, [], ◌∷◌, ap}
use Rattle.plan_events.specs.declared.event.Event.{Event}
use Rattle.plan_events.specs.declared.outcome.Reply.{Reply}
use Rattle.resource_locks.specs.Plans.{PlanParts}
use Rattle.scheduling.specs.Due.{unasked}
use Rattle.table_rule.specs.Picture.{AnswerOnce}
use Rattle.table_rule.specs.Reached.{Agrees, IsHistoryOfRun, IsRunOfCore}

-- the first reply, or one that says nothing
abbrev first_or : List Reply → Reply
first_or [] = unasked
first_or (reply ∷ more) = reply

pub agreeing : (told : ℕ → List Reply) → AnswerOnce told → (reply : ℕ → Reply) × Agrees told reply
agreeing told once = ((λ job. first_or (told job)), λ job i r at. ap first_or (once job i r at))

pub has_run : (p : PlanParts) (workers : ℕ) (told : ℕ → List Reply) (events : List Event) → AnswerOnce told → IsRunOfCore p workers told events → (reply : ℕ → Reply) × Agrees told reply × IsHistoryOfRun p workers reply events
has_run p workers told events once ran = (let x = agreeing told once in (x.0, x.1, ran x.0 x.1))

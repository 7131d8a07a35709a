-- What is taken for granted of the jobs at a table.
use Rattle.std.specs.Prelude.{◌≡◌, ◌<◌, ℕ, true, false, List, length, Some}
use Rattle.descriptor.specs.Nodes.{body_of}
use Rattle.plan_events.specs.Jobs.{unpulled}
use Rattle.plan_events.specs.declared.outcome.Reply.{Reply}
use Rattle.event_history.specs.Plans.{pulls_job}
use Rattle.event_history.specs.Results.{jobs_of}
use Rattle.scheduling.specs.Choices.{after_job}
use Rattle.table_rule.specs.declared.view.About.{About}
use Rattle.table_rule.specs.Picture.{replies_in}

-- each may give some reply; and one that is no factory's may give one without asking for a dynamic test
pub record MayAnswer {B : Type 0} (answers : B → List Reply) (about : About B) : Type 0 where
  pub factories : (n job : ℕ) → pulls_job about.plan n ≡ true → body_of about.plan.tree n ≡ Some job → 0 < length (replies_in answers about.jobs job)
  pub bodies : (n job : ℕ) → pulls_job about.plan n ≡ false → body_of about.plan.tree n ≡ Some job → 0 < length (unpulled (replies_in answers about.jobs job))
  pub after_bodies : (n job : ℕ) → after_job (jobs_of about.plan n) ≡ Some job → 0 < length (unpulled (replies_in answers about.jobs job))

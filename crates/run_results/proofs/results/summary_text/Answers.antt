-- The results are those of the events on the plan.
use Rattle.std.proofs.Common.{◌∙◌, List, ap}
use Rattle.plan_events.specs.declared.event.Event.{Event}
use Rattle.resource_locks.specs.Plans.{PlanParts}
use Rattle.run_results.specs.Counts.{counts_of}
use Rattle.run_results.specs.SummaryTexts.{summary_of}
use Rattle.run_results.proofs.Reading.{if_ok}
use Rattle.run_results.proofs.results.summary_text.Goals as goal

pub returns-clause-text : goal.returns-clause-text
returns-clause-text c =
    if_ok _ _ c.summary_text-2.result
    (λ text is. is ∙ ap (λ (p : PlanParts). summary_of (counts_of p c.in_ok-of.field-0.events)) c.in_ok-of.ensures.plan ∙ ap (λ (es : List Event). summary_of (counts_of c.args.plan.now es)) c.in_ok-of.ensures.events)
    c.summary_text-2.ensures.text

-- The results are those of this plan and these events.
use Rattle.std.proofs.Common.{ap₂, ◌∙◌}
use Rattle.run_results.specs.Counts.{counts_of}
use Rattle.run_results.specs.SummaryTexts.{summary_of}
use Rattle.uses.proofs.failed_run.failed_summary.Goals as goal

pub returns : goal.returns
returns c = c.in_ok-summary_text.ensures.text ∙ ap₂ (λ p events. summary_of (counts_of p events)) c.in_ok-results.ensures.plan c.in_ok-results.ensures.events

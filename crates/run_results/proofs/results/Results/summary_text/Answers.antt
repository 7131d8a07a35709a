-- The heading, and the lines of the counts behind it.
use Rattle.std.proofs.Common.{◌∙◌, ◌++◌, ℕ, List, ap₂}
use Rattle.run_results.specs.SummaryTexts.{count_lines, phrases}
use Rattle.run_results.proofs.results.Results.summary_text.Goals as goal

pub returns-clause-text : goal.returns-clause-text
returns-clause-text c = c.in_ok-push_counts.ensures ∙ ap₂ (λ (text counts : List ℕ). text ++ count_lines counts phrases) c.in_ok-text.ensures.ok c.counts.ensures.counts

pub returns-clause-skipped : goal.returns-clause-skipped
returns-clause-skipped c = c.counts.ensures.skipped

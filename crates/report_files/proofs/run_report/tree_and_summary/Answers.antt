-- The summary stands behind the tree.
use Rattle.std.proofs.Common.{◌∙◌, ◌++◌, ap₂}
use Rattle.report_files.proofs.run_report.tree_and_summary.Goals as goal

pub returns : goal.returns
returns c = c.in_ok-push_str.ensures.bytes ∙ ap₂ (λ a b. a ++ b) c.in_ok-text.ensures.text (c.as_str.ensures.value ∙ c.in_ok-summary.ensures.text)

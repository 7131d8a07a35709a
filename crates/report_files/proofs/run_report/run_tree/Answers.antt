-- The results are those of the run.
use Rattle.std.proofs.Common.{◌≡◌, ◌++◌, List, IfOk, subst}
use Rattle.std.specs.Prelude.{string_bytes}
use Rattle.plan_events.specs.declared.event.Event.{Event}
use Rattle.resource_locks.specs.Plans.{PlanParts}
use Rattle.run_results.specs.Counts.{counts_of}
use Rattle.run_results.specs.SummaryTexts.{summary_of}
use Rattle.run_results.specs.TreeTexts.{tree_of}
use Rattle.report_files.proofs.run_report.run_tree.Goals as goal

pub returns : goal.returns
returns c =
    let texts = c.args.texts.now in
    let theme = c.args.theme in
    let written = c.tree_and_summary.result in
    let of_events = subst (λ (es : List Event). IfOk written (λ text. string_bytes text ≡ tree_of theme c.in_ok-results.results.plan texts es ++ summary_of (counts_of c.in_ok-results.results.plan es))) c.in_ok-results.ensures.events c.tree_and_summary.ensures in
    subst (λ (p : PlanParts). IfOk written (λ text. string_bytes text ≡ tree_of theme p texts c.args.events.now ++ summary_of (counts_of p c.args.events.now))) c.in_ok-results.ensures.plan of_events

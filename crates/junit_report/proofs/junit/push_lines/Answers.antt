-- One line more.
use Rattle.std.proofs.Common.{◌∙◌, ◌++◌, ap, string_bytes, arith}
use Rattle.junit_report.specs.Junit.{case_line}
use Rattle.junit_report.specs.declared.cases.Case.{Case}
use Rattle.reports.proofs.Growing.{element_more}
use Rattle.junit_report.proofs.junit.push_lines.Goals as goal

pub loop-case-preserved : goal.loop-case-preserved
loop-case-preserved c =
    let line = case_line c.args.plan.now c.args.texts.now c.args.timings.now.took.items c.args.class.now in
    element_more line c.args.cases.now c.loop-case.case-index c.case-item.result (string_bytes c.args.xml.now)
    (omega arith) c.loop-case.invariant (c.in_ok-push_case.ensures ∙ ap (λ (case : Case). string_bytes c.loop-case.xml ++ line case) c.case-item.is)

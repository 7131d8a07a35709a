-- The tag's name and attributes, its end, what is in the element, and its end with that of the line.
use Rattle.std.proofs.Common.{◌∙◌, ◌++◌, List, ℕ, codes, string_bytes, ap}
use Rattle.std.proofs.lemmas.Result.{on_ok_weaker}
use Rattle.junit_report.specs.Junit.{case_attributes, case_content}
use Rattle.junit_report.proofs.Pieces.{ends}
use Rattle.reports.proofs.Growing.{then}
use Rattle.reports.proofs.Pushing.{pushed}
use Rattle.junit_report.proofs.junit_case.push_case.Goals as goal

pub returns : goal.returns
returns c =
    let old = string_bytes c.args.xml.now in
    let begun = string_bytes c.push_str.new.self in
    let attributes = case_attributes c.args.plan.now c.args.timings.now.took.items c.args.class.now c.args.case.node in
    let inside = case_content c.args.plan.now c.args.texts.now c.args.case in
    let tag = then begun attributes (codes ">") c.in_ok-push_attributes.ensures c.in_ok-push_str-2.ensures.bytes in
    let content = then begun (attributes ++ codes ">") inside tag c.in_ok-push_content.ensures in
    on_ok_weaker c.push_str-3.result
    (λ last.
    then old _ _ c.in_ok-push_str.ensures.bytes (then begun ((attributes ++ codes ">") ++ inside) (codes "</testcase>\n") content last)
    ∙ ap (λ (l : List ℕ). old ++ (codes "    <testcase" ++ l)) (ends attributes (codes ">") inside (codes "</testcase>") (codes "\n")))
    (pushed c.push_str-3.result (string_bytes c.push_str-3.new.self) (string_bytes c.push_content.new.xml) (codes "</testcase>\n") c.push_str-3.ensures.bytes)

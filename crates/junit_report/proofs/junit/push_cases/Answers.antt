-- The element, on lines of its own.
use Rattle.std.proofs.Common.{◌∙◌, ◌++◌, List, ℕ, codes, string_bytes, ap}
use Rattle.std.proofs.lemmas.Result.{on_ok_weaker}
use Rattle.std.specs.List.{flat_map}
use Rattle.job_times.specs.Timings.{times_of}
use Rattle.junit_report.specs.Junit.{case_line, suite_attributes, count_attributes, stamp_attributes}
use Rattle.junit_report.proofs.Pieces.{ends_three}
use Rattle.reports.proofs.Growing.{then}
use Rattle.reports.proofs.Pushing.{pushed}
use Rattle.junit_report.proofs.junit.push_cases.Goals as goal

pub returns : goal.returns
returns c =
    let old = string_bytes c.args.xml.now in
    let begun = string_bytes c.push_str.new.self in
    let times = times_of c.args.timings.now in
    let attributes = suite_attributes times c.args.class.now c.args.cases.now in
    let lines = flat_map (case_line c.args.plan.now c.args.texts.now c.args.timings.now.took.items c.args.class.now) c.args.cases.now in
    let said = then begun (count_attributes times.took c.args.class.now c.args.cases.now) (stamp_attributes times) c.in_ok-push_counts.ensures c.in_ok-push_stamp.ensures in
    let start = then begun attributes (codes ">\n") said c.in_ok-push_str-2.ensures.bytes in
    let content = then begun (attributes ++ codes ">\n") lines start c.in_ok-push_lines.ensures in
    on_ok_weaker c.push_str-3.result
    (λ last.
    then old _ _ c.in_ok-push_str.ensures.bytes (then begun ((attributes ++ codes ">\n") ++ lines) (codes "  </testsuite>\n") content last)
    ∙ ap (λ (l : List ℕ). old ++ (codes "  <testsuite" ++ l)) (ends_three attributes (codes ">\n") lines (codes "  ") (codes "</testsuite>") (codes "\n")))
    (pushed c.push_str-3.result (string_bytes c.push_str-3.new.self) (string_bytes c.push_lines.new.xml) (codes "  </testsuite>\n") c.push_str-3.ensures.bytes)

-- There are cases.
use Rattle.std.proofs.Common.{◌≡◌, ◌==◌, false, length, ◌∙◌, string_bytes, arith}
use Rattle.std.proofs.lemmas.Grind.{common_steps}
use Rattle.std.proofs.lemmas.Result.{on_ok_weaker}
use Rattle.job_times.specs.Timings.{times_of}
use Rattle.junit_report.proofs.Suites.{told_suite}
use Rattle.junit_report.proofs.junit.push_suite.Goals as goal

pub returns : goal.returns
returns c =
    let some : (length c.as_slice.result.now == 0) ≡ false = grind (arith, common_steps) in
    on_ok_weaker c.push_cases.result
    (λ last. told_suite c.args.plan.now c.args.texts.now (times_of c.args.timings.now) c.args.told.now c.args.node c.tree-tree.result.now c.as_str-class.result.now c.as_slice.result.now (string_bytes c.args.xml.now) (string_bytes c.push_cases.new.xml)
    c.tree-tree.ensures.same (c.as_str-class.ensures.value ∙ c.in_ok-class.ensures) (c.as_slice.ensures.value ∙ c.in_ok-cases.ensures) some last)
    c.push_cases.ensures

-- One suite more.
use Rattle.std.proofs.Common.{ℕ, ◌++◌, ◌∙◌, ap, string_bytes}
use Rattle.job_times.specs.Timings.{times_of}
use Rattle.junit_report.specs.Junit.{suite_of}
use Rattle.reports.proofs.Growing.{numbers_more}
use Rattle.junit_report.proofs.junit.push_suites.Goals as goal

pub loop-number-preserved : goal.loop-number-preserved
loop-number-preserved c =
    let suite = suite_of c.args.plan.now c.args.texts.now (times_of c.args.timings.now) c.args.told.now in
    numbers_more suite c.loop-number.number (string_bytes c.args.xml.now) c.loop-number.invariant
    (c.in_ok-push_suite.ensures ∙ ap (λ (n : ℕ). string_bytes c.loop-number.xml ++ suite n) c.new-node.ensures)

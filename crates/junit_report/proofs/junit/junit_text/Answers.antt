-- No time is known.
use Rattle.std.proofs.Common.{◌≡◌, IfOk, string_bytes, subst}
use Rattle.job_times.specs.Timings.{Times}
use Rattle.junit_report.specs.Junit.{timed_junit_of}
use Rattle.junit_report.proofs.junit.junit_text.Goals as goal

pub returns : goal.returns
returns c =
    subst (λ (times : Times). IfOk c.timed_junit_text.result (λ xml. string_bytes xml ≡ timed_junit_of c.args.plan.now c.args.texts.now times c.args.events.now)) c.none.ensures c.timed_junit_text.ensures

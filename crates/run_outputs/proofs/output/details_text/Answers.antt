-- The report is that of the results' plan and events.
use Rattle.std.proofs.Common.{◌≡◌, List, IfOk, subst}
use Rattle.std.specs.Prelude.{string_bytes}
use Rattle.job_times.specs.Timings.{times_of}
use Rattle.plan_events.specs.declared.event.Event.{Event}
use Rattle.resource_locks.specs.Plans.{PlanParts}
use Rattle.junit_report.specs.Junit.{timed_junit_of}
use Rattle.run_outputs.proofs.output.details_text.Goals as goal

pub returns-in-Xml : goal.returns-in-Xml
returns-in-Xml c =
    let times = times_of c.args.timings.now in
    let of_events = subst (λ (events : List Event). IfOk c.timed_junit_text.result (λ text. string_bytes text ≡ timed_junit_of c.args.plan.now c.args.texts.now times events)) c.requires.events c.timed_junit_text.ensures in
    rw c.in-Xml.is (subst (λ (p : PlanParts). IfOk c.timed_junit_text.result (λ text. string_bytes text ≡ timed_junit_of p c.args.texts.now times c.args.results.now.events)) c.requires.plan of_events)

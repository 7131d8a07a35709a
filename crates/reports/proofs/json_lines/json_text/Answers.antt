-- No time is known.
use Rattle.std.proofs.Common.{◌≡◌, IfOk, ap, map, string_bytes, subst}
use Rattle.job_times.specs.Timings.{Times, Took}
use Rattle.reports.specs.Json.{ReadsAs, timed_json_of, timed_object_told}
use Rattle.reports.proofs.json_lines.json_text.Goals as goal

pub returns-clause-text : goal.returns-clause-text
returns-clause-text c =
    subst (λ (took : Took). IfOk c.timed_json_text.result (λ json. string_bytes json ≡ timed_json_of c.args.plan.now c.args.texts.now took c.args.events.now)) (ap (λ (times : Times). times.took) c.none.ensures) c.timed_json_text.ensures.text

pub returns-clause-reads_back : goal.returns-clause-reads_back
returns-clause-reads_back c =
    subst (λ (took : Took). IfOk c.timed_json_text.result (λ json. ReadsAs (string_bytes json) (map (timed_object_told c.args.plan.now c.args.texts.now took) c.args.events.now))) (ap (λ (times : Times). times.took) c.none.ensures) c.timed_json_text.ensures.reads_back

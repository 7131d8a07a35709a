-- One attribute behind the other.
use Rattle.std.proofs.Common.{◌∙◌, ◌++◌, ℕ, codes, string_bytes, ap}
use Rattle.std.proofs.lemmas.Result.{on_ok_weaker}
use Rattle.junit_report.specs.CaseTimes.{time_text}
use Rattle.junit_report.specs.XmlStrings.{attribute_of, number_attribute}
use Rattle.reports.proofs.Growing.{then}
use Rattle.junit_report.proofs.junit.push_counts.Goals as goal

pub returns : goal.returns
returns c =
    let named = string_bytes c.push_attribute.new.xml in
    let counted = string_bytes c.push_number.new.xml in
    let judged = string_bytes c.push_number-2.new.xml in
    let stopped = string_bytes c.push_number-3.new.xml in
    let last = string_bytes c.push_number-4.new.xml in
    let failed = c.in_ok-push_number-2.ensures ∙ ap (λ (n : ℕ). counted ++ number_attribute (codes "failures") n) c.failures.ensures in
    let errors = c.in_ok-push_number-3.ensures ∙ ap (λ (n : ℕ). judged ++ number_attribute (codes "errors") n) c.errors.ensures in
    let skipped = c.in_ok-push_number-4.ensures ∙ ap (λ (n : ℕ). stopped ++ number_attribute (codes "skipped") n) c.skips.ensures in
    on_ok_weaker c.push_time.result
    (λ time. then (string_bytes c.args.xml.now) _ _ c.in_ok-push_attribute.ensures (then named _ _ c.in_ok-push_number.ensures (then counted _ _ failed (then judged _ _ errors (then stopped _ _ skipped (time ∙ ap (λ (n : ℕ). last ++ attribute_of (codes "time") (time_text n)) c.time_of_cases.ensures))))))
    c.push_time.ensures

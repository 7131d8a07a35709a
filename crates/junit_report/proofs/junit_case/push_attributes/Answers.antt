-- Three attributes, the first piece by piece.
use Rattle.std.proofs.Common.{◌∙◌, ◌++◌, ℕ, codes, string_bytes, ap}
use Rattle.std.proofs.lemmas.Result.{on_ok_weaker}
use Rattle.descriptor.specs.Nodes.{Nodes}
use Rattle.junit_report.specs.ClassNames.{reported_name}
use Rattle.junit_report.specs.CaseTimes.{time_text}
use Rattle.junit_report.specs.XmlStrings.{attribute, attribute_of}
use Rattle.reports.proofs.Growing.{then}
use Rattle.junit_report.proofs.junit_case.push_attributes.Goals as goal

pub returns : goal.returns
returns c =
    let old = string_bytes c.args.xml.now in
    let begun = string_bytes c.push_str.new.self in
    let closed = string_bytes c.push_str-2.new.self in
    let classed = string_bytes c.push_attribute.new.xml in
    let name = reported_name c.args.plan.now.tree c.args.node in
    let told = c.in_ok-push_reported.ensures ∙ ap (λ (t : Nodes). begun ++ reported_name t c.args.node) c.tree.ensures.same in
    let first = then old (codes " name=\"") (name ++ codes "\"") c.in_ok-push_str.ensures.bytes (then begun name (codes "\"") told c.in_ok-push_str-2.ensures.bytes) in
    on_ok_weaker c.push_time.result
    (λ last.
    then old (attribute_of (codes "name") name) _ first (
    then closed (attribute (codes "classname") c.args.class.now) _ c.in_ok-push_attribute.ensures (
    last ∙ ap (λ (micros : ℕ). classed ++ attribute_of (codes "time") (time_text micros)) (c.from.ensures ∙ c.time_or_none.ensures))))
    c.push_time.ensures

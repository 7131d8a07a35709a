-- The id, the name, and what stands round them.
use Rattle.std.proofs.Common.{◌∙◌, ◌++◌, List, ℕ, codes, string_bytes, ap}
use Rattle.std.proofs.lemmas.Result.{on_ok_weaker}
use Rattle.descriptor.specs.Nodes.{Nodes}
use Rattle.run_results.specs.TreeTexts.{name_at}
use Rattle.junit_report.specs.XmlStrings.{escaped}
use Rattle.reports.proofs.Growing.{then}
use Rattle.reports.proofs.Pushing.{pushed}
use Rattle.junit_report.proofs.junit_case.push_output.Goals as goal

pub returns : goal.returns
returns c =
    let begun = string_bytes c.push_str.new.self in
    let known = string_bytes c.push_escaped.new.xml in
    let parted = string_bytes c.push_str-2.new.self in
    let named = string_bytes c.push_escaped-2.new.xml in
    let id = c.in_ok-push_escaped.ensures ∙ ap (λ (text : List ℕ). begun ++ escaped text) c.id_of.ensures in
    let name = c.in_ok-push_escaped-2.ensures ∙ ap (λ (text : List ℕ). parted ++ escaped text) (c.name_of.ensures ∙ ap (λ (t : Nodes). name_at t c.args.node) c.tree.ensures.same) in
    on_ok_weaker c.push_str-3.result
    (λ last. then (string_bytes c.args.xml.now) _ _ c.in_ok-push_str.ensures.bytes (then begun _ _ id (then known _ _ c.in_ok-push_str-2.ensures.bytes (then parted _ _ name last))))
    (pushed c.push_str-3.result (string_bytes c.push_str-3.new.self) named (codes "</system-out>") c.push_str-3.ensures.bytes)

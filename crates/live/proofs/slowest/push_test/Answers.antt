-- The time, the name, the id, and what stands round them.
use Rattle.std.proofs.Common.{◌∙◌, ◌++◌, List, ℕ, codes, string_bytes, ap}
use Rattle.std.proofs.lemmas.Result.{on_ok_weaker}
use Rattle.descriptor.specs.Nodes.{Nodes}
use Rattle.run_results.specs.TreeTexts.{name_at}
use Rattle.live.specs.Shown.{shown}
use Rattle.live.proofs.Growing.{then}
use Rattle.live.proofs.Pushing.{pushed}
use Rattle.reports.specs.TimeTexts.{seconds_text}
use Rattle.live.proofs.slowest.push_test.Goals as goal

pub returns : goal.returns
returns c =
    let begun = string_bytes c.push_str.new.self in
    let timed = string_bytes c.push_seconds.new.text in
    let parted = string_bytes c.push_str-2.new.self in
    let named = string_bytes c.push_shown.new.text in
    let next = string_bytes c.push_str-3.new.self in
    let known = string_bytes c.push_shown-2.new.text in
    let time = c.in_ok-push_seconds.ensures ∙ ap (λ (micros : ℕ). begun ++ seconds_text micros) (c.from.ensures ∙ c.time_or_none.ensures) in
    let name = c.in_ok-push_shown.ensures ∙ ap (λ (text : List ℕ). parted ++ shown text) (c.name_of.ensures ∙ ap (λ (t : Nodes). name_at t c.args.node) c.tree.ensures.same) in
    let id = c.in_ok-push_shown-2.ensures ∙ ap (λ (text : List ℕ). next ++ shown text) c.id_of.ensures in
    on_ok_weaker c.push_str-4.result
    (λ last. then (string_bytes c.args.text.now) _ _ c.in_ok-push_str.ensures.bytes (then begun _ _ time (then timed _ _ c.in_ok-push_str-2.ensures.bytes (then parted _ _ name (then named _ _ c.in_ok-push_str-3.ensures.bytes (then next _ _ id last))))))
    (pushed c.push_str-4.result (string_bytes c.push_str-4.new.self) known (codes "\n") c.push_str-4.ensures.bytes)

-- The whole, on lines of its own, of what was told of each node.
use Rattle.std.proofs.Common.{◌≡◌, ◌∙◌, ◌++◌, List, ℕ, codes, ap, sym, append_assoc, arith}
use Rattle.std.specs.List.{flat_map, range_with_len}
use Rattle.std.proofs.lemmas.Grind.{common_steps}
use Rattle.descriptor.specs.Nodes.{size}
use Rattle.job_times.specs.Timings.{times_of}
use Rattle.run_results.specs.Told.{all_told}
use Rattle.run_results.specs.declared.told.NodeEvents.{NodeEvents}
use Rattle.junit_report.specs.Junit.{suite_of, suites_element}
use Rattle.junit_report.proofs.Pieces.{behind}
use Rattle.junit_report.proofs.junit.timed_junit_text.Goals as goal

pub returns : goal.returns
returns c =
    let plan = c.args.plan.now in
    let times = times_of c.args.timings.now in
    let nodes : c.len.result ≡ size plan.tree = grind (arith, common_steps) in
    let told : c.as_slice.result.now ≡ all_told (size plan.tree) c.args.events.now = c.as_slice.ensures.value ∙ c.in_ok-told.ensures ∙ ap (λ (n : ℕ). all_told n c.args.events.now) nodes in
    let suites = flat_map (suite_of plan c.args.texts.now times c.as_slice.result.now) (range_with_len 0 (size plan.tree)) in
    let head = codes "<testsuites>\n" in
    behind (head ++ suites) _ (behind head _ c.in_ok-xml.ensures.ok c.in_ok-push_suites.ensures) c.in_ok-push_str.ensures.bytes
    ∙ ap (λ (l : List ℕ). head ++ l) (sym (append_assoc suites (codes "</testsuites>") (codes "\n")))
    ∙ ap (λ (t : List NodeEvents). suites_element plan c.args.texts.now times t) told

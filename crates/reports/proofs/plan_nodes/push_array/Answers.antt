-- The array, between its brackets.
use Rattle.std.proofs.Common.{◌++◌, ◌∙◌, List, ℕ, codes, ap, sym, string_bytes}
use Rattle.std.proofs.lemmas.Result.{on_ok_weaker}
use Rattle.std.specs.List.{join_by}
use Rattle.resource_locks.specs.Plans.{held_of}
use Rattle.reports.specs.JsonPieces.{value_text}
use Rattle.reports.specs.PlanNodes.{lock_json}
use Rattle.reports.proofs.Growing.{then}
use Rattle.reports.proofs.PlanTold.{array_text}
use Rattle.reports.proofs.Pushing.{pushed}
use Rattle.reports.proofs.plan_nodes.push_array.Goals as goal

pub returns-clause-text : goal.returns-clause-text
returns-clause-text c =
    let p = c.args.plan.now in
    let held = held_of p c.args.node in
    let old = string_bytes c.args.json.now in
    let opened = string_bytes c.push_str.new.self in
    let items = join_by (λ lock. value_text (lock_json p lock)) (codes ",") held in
    on_ok_weaker c.push_str-2.result
    (λ last. then old (codes "[") (items ++ codes "]") c.in_ok-push_str.ensures.bytes (then opened items (codes "]") c.in_ok-push_locks.ensures.text last) ∙ ap (λ (l : List ℕ). old ++ l) (sym (array_text p held)))
    (pushed c.push_str-2.result (string_bytes c.push_str-2.new.self) (string_bytes c.push_locks.new.json) (codes "]") c.push_str-2.ensures.bytes)

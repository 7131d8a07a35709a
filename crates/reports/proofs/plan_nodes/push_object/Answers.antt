-- The object, and its end with that of the line.
use Rattle.std.proofs.Common.{◌++◌, ◌∙◌, List, ℕ, codes, refl, ap, string_bytes}
use Rattle.std.proofs.lemmas.Result.{on_ok_weaker}
use Rattle.descriptor.specs.Nodes.{kind_of}
use Rattle.json.specs.Json.{string}
use Rattle.json.specs.Print.{quoted}
use Rattle.reports.specs.Json.{type_word}
use Rattle.reports.specs.JsonPieces.{members_behind}
use Rattle.reports.specs.PlanNodes.{plan_members}
use Rattle.reports.proofs.Growing.{then}
use Rattle.reports.proofs.JsonWritten.{line_written}
use Rattle.reports.proofs.Pushing.{pushed}
use Rattle.reports.proofs.plan_nodes.push_object.Goals as goal

pub returns-clause-text : goal.returns-clause-text
returns-clause-text c =
    let old = string_bytes c.args.json.now in
    let opened = string_bytes c.push_str.new.self in
    let kind = type_word (kind_of c.args.plan.now.tree c.args.node) in
    let word = quoted (codes "type") ++ (codes ":" ++ quoted kind) in
    let more = plan_members c.args.plan.now c.args.node in
    let typed = c.in_ok-push_member.ensures ∙ ap (λ (word : List ℕ). opened ++ (quoted (codes "type") ++ (codes ":" ++ quoted word))) (c.type_word.ensures ∙ ap type_word (c.kind_of.ensures ∙ ap (λ tree. kind_of tree c.args.node) c.tree.ensures.same)) in
    let members = then opened word (members_behind more) typed c.in_ok-push_members.ensures.text in
    on_ok_weaker c.push_str-2.result
    (λ last. line_written old (codes "type") (string kind) more refl
    (then old (codes "{") ((word ++ members_behind more) ++ codes "}\n") c.in_ok-push_str.ensures.bytes (then opened (word ++ members_behind more) (codes "}\n") members last)))
    (pushed c.push_str-2.result (string_bytes c.push_str-2.new.self) (string_bytes c.push_members.new.json) (codes "}\n") c.push_str-2.ensures.bytes)

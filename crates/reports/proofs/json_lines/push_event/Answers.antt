-- The object, and its end with that of the line.
use Rattle.std.proofs.Common.{◌++◌, ◌∙◌, List, ℕ, Option, codes, decimal, refl, ap, string_bytes}
use Rattle.std.proofs.lemmas.Result.{on_ok_weaker}
use Rattle.json.specs.Json.{string}
use Rattle.json.specs.Print.{quoted}
use Rattle.job_times.specs.Timings.{took_of}
use Rattle.plan_events.specs.Texts.{text_at}
use Rattle.run_results.specs.Feed.{kind_word, text_or}
use Rattle.reports.specs.Json.{node_members, number_member}
use Rattle.reports.specs.JsonPieces.{members_behind}
use Rattle.reports.proofs.Growing.{then}
use Rattle.reports.proofs.JsonWritten.{line_written}
use Rattle.reports.proofs.Pushing.{pushed}
use Rattle.reports.proofs.json_lines.push_event.Goals as goal

pub returns-clause-text : goal.returns-clause-text
returns-clause-text c =
    let e = c.args.event in
    let old = string_bytes c.args.json.now in
    let opened = string_bytes c.push_str.new.self in
    let named = string_bytes c.push_member.new.json in
    let numbered = string_bytes c.push_number.new.json in
    let text = text_or (text_at c.args.texts.now e.node) in
    let word = quoted (codes "event") ++ (codes ":" ++ quoted (kind_word e.kind)) in
    let number = codes "," ++ (quoted (codes "worker") ++ (codes ":" ++ decimal e.worker)) in
    let node = node_members c.args.plan.now e text (took_of c.args.timings.now.took.items e.node) in
    let event = c.in_ok-push_member.ensures ∙ ap (λ (word : List ℕ). opened ++ (quoted (codes "event") ++ (codes ":" ++ quoted word))) c.event_word.ensures in
    let seen = c.in_ok-push_number.ensures ∙ ap (λ (n : ℕ). named ++ (codes "," ++ (quoted (codes "worker") ++ (codes ":" ++ decimal n)))) c.from.ensures in
    let told = c.in_ok-push_node.ensures ∙ ap (λ (took : Option ℕ). numbered ++ members_behind (node_members c.args.plan.now e text took)) c.took_by-took.ensures.same in
    let members = then opened word (number ++ members_behind node) event (then named number (members_behind node) seen told) in
    on_ok_weaker c.push_str-2.result
    (λ last. line_written old (codes "event") (string (kind_word e.kind)) (number_member (codes "worker") e.worker node) refl
    (then old (codes "{") ((word ++ (number ++ members_behind node)) ++ codes "}\n") c.in_ok-push_str.ensures.bytes (then opened (word ++ (number ++ members_behind node)) (codes "}\n") members last)))
    (pushed c.push_str-2.result (string_bytes c.push_str-2.new.self) (string_bytes c.push_node.new.json) (codes "}\n") c.push_str-2.ensures.bytes)

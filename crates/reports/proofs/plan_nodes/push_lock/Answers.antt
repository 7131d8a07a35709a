-- The object of a lock, by its members.
use Rattle.std.proofs.Common.{◌++◌, ◌∙◌, List, ℕ, codes, ap, sym, string_bytes}
use Rattle.std.proofs.lemmas.Result.{on_ok_weaker}
use Rattle.json.specs.Print.{quoted}
use Rattle.reports.specs.JsonPieces.{members_behind}
use Rattle.reports.specs.PlanNodes.{limit_members, lock_word}
use Rattle.reports.proofs.Growing.{then}
use Rattle.reports.proofs.PlanTold.{lock_text}
use Rattle.reports.proofs.Pushing.{pushed}
use Rattle.reports.proofs.plan_nodes.push_lock.Goals as goal

pub returns : goal.returns
returns c =
    let old = string_bytes c.args.json.now in
    let opened = string_bytes c.push_str.new.self in
    let lock = c.args.lock.now in
    let key = quoted (codes "key") ++ (codes ":" ++ quoted lock.key) in
    let mode = codes "," ++ (quoted (codes "mode") ++ (codes ":" ++ quoted (lock_word lock.mode))) in
    let limit = members_behind (limit_members c.args.limit) in
    let keyed = c.in_ok-push_member.ensures ∙ ap (λ (t : List ℕ). opened ++ (quoted (codes "key") ++ (codes ":" ++ quoted t))) c.as_str.ensures in
    let moded = c.in_ok-push_further.ensures ∙ ap (λ (t : List ℕ). string_bytes c.push_member.new.json ++ (codes "," ++ (quoted (codes "mode") ++ (codes ":" ++ quoted t)))) c.lock_word.ensures in
    let inside = then opened key (mode ++ limit) keyed (then (string_bytes c.push_member.new.json) mode limit moded c.in_ok-push_limit.ensures) in
    on_ok_weaker c.push_str-2.result
    (λ last. then old (codes "{") ((key ++ (mode ++ limit)) ++ codes "}") c.in_ok-push_str.ensures.bytes (then opened (key ++ (mode ++ limit)) (codes "}") inside last) ∙ ap (λ (l : List ℕ). old ++ l) (sym (lock_text c.args.limit lock)))
    (pushed c.push_str-2.result (string_bytes c.push_str-2.new.self) (string_bytes c.push_limit.new.json) (codes "}") c.push_str-2.ensures.bytes)

-- Three members, and how the node would be run.
use Rattle.std.proofs.Common.{◌++◌, ◌∙◌, List, ℕ, codes, ap, string_bytes}
use Rattle.std.proofs.lemmas.Result.{on_ok_weaker}
use Rattle.descriptor.specs.Nodes.{parent_of}
use Rattle.json.specs.Print.{quoted}
use Rattle.run_results.specs.Feed.{id_at}
use Rattle.run_results.specs.TreeTexts.{name_at}
use Rattle.reports.specs.JsonPieces.{members_behind}
use Rattle.reports.specs.PlanNodes.{way_members}
use Rattle.reports.proofs.Growing.{then}
use Rattle.reports.proofs.plan_nodes.push_members.Goals as goal

pub returns-clause-text : goal.returns-clause-text
returns-clause-text c =
    let p = c.args.plan.now in
    let n = c.args.node in
    let old = string_bytes c.args.json.now in
    let one = string_bytes c.push_further.new.json in
    let two = string_bytes c.push_further-2.new.json in
    let named = λ (name value : List ℕ). codes "," ++ (quoted name ++ (codes ":" ++ quoted value)) in
    let ways = members_behind (way_members p n) in
    let id = c.in_ok-push_further.ensures ∙ ap (λ (t : List ℕ). old ++ named (codes "id") t) c.id_of.ensures in
    let parent = c.in_ok-push_further-2.ensures ∙ ap (λ (t : List ℕ). one ++ named (codes "parent") t) (c.id_of-2.ensures ∙ ap (id_at p) (c.parent_of.ensures ∙ ap (λ tree. parent_of tree n) c.tree-tree.ensures.same)) in
    let name = c.in_ok-push_further-3.ensures ∙ ap (λ (t : List ℕ). two ++ named (codes "name") t) (c.name_of.ensures ∙ ap (λ tree. name_at tree n) c.tree-tree.ensures.same) in
    on_ok_weaker c.push_ways.result
    (λ last.
    then old (named (codes "id") (id_at p n)) (named (codes "parent") (id_at p (parent_of p.tree n)) ++ (named (codes "name") (name_at p.tree n) ++ ways)) id
    (then one (named (codes "parent") (id_at p (parent_of p.tree n))) (named (codes "name") (name_at p.tree n) ++ ways) parent
    (then two (named (codes "name") (name_at p.tree n)) ways name last)))
    c.push_ways.ensures.text

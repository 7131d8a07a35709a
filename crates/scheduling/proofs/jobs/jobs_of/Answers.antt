-- The plan's tree is the one that was looked at.
use Rattle.std.proofs.Common.{◌≡◌, ℕ, Option, length, ap, ◌∙◌}
use Rattle.descriptor.specs.declared.kind.Kind.{Kind}
use Rattle.descriptor.specs.Nodes.{Nodes, children_of, kind_of, role_of, body_of}
use Rattle.event_history.specs.Plans.{Sort, sort_by, sort_of}
use Rattle.event_history.specs.Results.{jobs_by}
use Rattle.scheduling.proofs.ChildLists.{after_is, jobs_with}
use Rattle.scheduling.proofs.jobs.jobs_of.Goals as goal

pub returns : goal.returns
returns c =
    let n = c.args.node in
    let p = c.args.plan.now in
    let t = c.tree-tree.result.now in
    let same : t ≡ p.tree = c.tree-tree.ensures.same in
    let tree = c.tree-tree.ensures.tree in
    let sort : sort_by c.kind.result c.role.result ≡ sort_of p.tree n = ap (λ (k : Kind). sort_by k c.role.result) (c.kind.ensures ∙ ap (λ (u : Nodes). kind_of u n) same) ∙ ap (sort_by (kind_of p.tree n)) (c.role.ensures ∙ ap (λ (u : Nodes). role_of u n) same) in
    let body : c.body.result ≡ body_of p.tree n = c.body.ensures ∙ ap (λ (u : Nodes). body_of u n) same in
    let spares = length c.children-spares.result.now in
    c.jobs_by.ensures ∙ ap (λ (s : Sort). jobs_by s c.body.result c.after_run.result spares) sort
    ∙ ap (λ (b : Option ℕ). jobs_by (sort_of p.tree n) b c.after_run.result spares) body
    ∙ ap (λ (a : Option ℕ). jobs_by (sort_of p.tree n) (body_of p.tree n) a spares) (c.after_run.ensures ∙ after_is p n tree)
    ∙ jobs_with p n tree spares (ap length (c.children-spares.ensures ∙ ap (λ (u : Nodes). children_of u n) same))

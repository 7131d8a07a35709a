-- Where each body of a tree has a job, each of what a request selects of it has one.
use Rattle.std.proofs.Common.{◌≡◌, ℕ, ◌-◌, ◌<◌, cond, Bool, true, false, List, [], Option, Some, None, sym, ap, subst, ◌∙◌, inl, inr}
use Rattle.std.proofs.lemmas.Bool.{false≢true}
use Rattle.std.specs.Option.{is_some}
use Rattle.descriptor.specs.Nodes.{Nodes, IsTree, size, node_at, body_or, after_or, body_of, after_of}
use Rattle.descriptor.specs.Pruned.{pruned}
use Rattle.resource_locks.specs.Plans.{PlanParts}
use Rattle.table_contents.specs.Prepared.{HasAllJobs}
use Rattle.table_rule.specs.Slots.{is_body_slot, job_with}
use Rattle.worker_pool.proofs.Handed.{body_inside, after_inside}
use Rattle.launcher.specs.Programs.{HasJobs}
use Rattle.selectors.specs.declared.request.Request.{Request}
use Rattle.selectors.specs.Selections.{is_selected, selection, dealt, answer}
use Rattle.selectors.specs.Shards.{Part, is_unit_of, shard_or_all}
use Rattle.tree_orders.specs.Orders.{seeded_or_same}
use Rattle.tree_orders.proofs.SeededTree.{node_from, seeded_told}
use Rattle.config_params.specs.declared.settings.Settings.{Settings}
use Rattle.suite_text.specs.Reading.Parts.{SuiteParts}
use Rattle.launch_options.specs.Asked.{Asked}
use Rattle.ready_runs.specs.Ready.{IsReady}
use Rattle.ready_runs.proofs.Selected.{dealt_tree, found, kept, staying}

-- the tree of the nodes that stay where some are selected
module _ (t : Nodes) (tree : IsTree t) (q : ℕ → Bool) where
  staying_jobs : {B : Type 0} (jobs : List (ℕ × B)) → HasJobs t jobs → HasJobs (pruned t (staying t tree q)) jobs
  staying_jobs jobs has n number is =
      let u = pruned t (staying t tree q) in
      let low : n < size u = elim is [ inl body ↦ body_inside u (found t tree q) n number body | inr after ↦ after_inside u (found t tree q) n number after ] in
      let from = (kept t tree q).each n low in
      let told : node_at u n ≡ node_at t from.0 = ap (node_at u) (sym from.1.2) ∙ (kept t tree q).told from.0 from.1.0 from.1.1 in
      has from.0 number (elim is [ inl body ↦ inl (sym (ap body_or told) ∙ body) | inr after ↦ inr (sym (ap after_or told) ∙ after) ])

shard_jobs : {B : Type 0} (t : Nodes) → IsTree t → (part : Option Part) (jobs : List (ℕ × B)) → HasJobs t jobs → HasJobs (shard_or_all t part) jobs
shard_jobs t tree None jobs has = has
shard_jobs t tree (Some part) jobs has = staying_jobs t tree (is_unit_of t part) jobs has

seeded_jobs : {B : Type 0} (t : Nodes) → IsTree t → (seed : Option ℕ) (jobs : List (ℕ × B)) → HasJobs t jobs → HasJobs (seeded_or_same seed t) jobs
seeded_jobs t tree None jobs has = has
seeded_jobs t tree (Some seed) jobs has = λ n number is.
    has (node_from seed t n) number (elim is [
      | inl body ↦ inl (sym (ap body_or (seeded_told t tree seed n)) ∙ body)
      | inr after ↦ inr (sym (ap after_or (seeded_told t tree seed n)) ∙ after)
    ])

-- and each body of what is selected has a job, where each of the tree has one
pub selected_jobs : {B : Type 0} (t : Nodes) → IsTree t → (request : Request) (jobs : List (ℕ × B)) → HasJobs t jobs → HasJobs (answer t request) jobs
selected_jobs t tree request jobs has =
    let selected : IsTree (selection t request) = found t tree (is_selected t request) in
    seeded_jobs (dealt t request) (dealt_tree (selection t request) selected request.shard) request.seed jobs (shard_jobs (selection t request) selected request.shard jobs (staying_jobs t tree (is_selected t request) jobs has))

-- so no job of a plan of it is missing
pub all_jobs : {B : Type 0} (p : PlanParts) (jobs : List (ℕ × B)) → HasJobs p.tree jobs → HasAllJobs p jobs
all_jobs p jobs has number missing = false≢true (sym (ap is_some missing.none) ∙ there (is_body_slot p missing.slot) missing.is)
  where
    there : (b : Bool) → cond b (body_of p.tree missing.slot) (after_of p.tree (missing.slot - size p.tree)) ≡ Some number → is_some (job_with jobs number) ≡ true
    there true is = has missing.slot number (inl is)
    there false is = has (missing.slot - size p.tree) number (inr is)

-- and none is where the plan is that of what the request selects
pub no_job_missing : {B : Type 0} (asked : Asked) (parts : SuiteParts) (settings : Settings) (p : PlanParts) (jobs : List (ℕ × B)) → IsTree parts.tree → IsReady asked parts settings p [] → HasJobs parts.tree jobs → HasAllJobs p jobs
no_job_missing asked parts settings p jobs tree ready has =
    let same : p.tree ≡ answer parts.tree asked.request = ap (λ (q : PlanParts). q.tree) ready.plan_is in
    all_jobs p jobs (subst (λ (t : Nodes). HasJobs t jobs) (sym same) (selected_jobs parts.tree tree asked.request jobs has))

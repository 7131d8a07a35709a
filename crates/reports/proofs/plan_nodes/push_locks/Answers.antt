-- One lock more.
use Rattle.std.proofs.Common.{◌≡◌, ◌<◌, ◌++◌, ◌∙◌, ℕ, codes, length, get_or, arith, string_bytes, ap₂, subst}
use Rattle.std.proofs.lemmas.Grind.{common_steps}
use Rattle.descriptor.specs.declared.lock.Lock.{Lock}
use Rattle.resource_locks.specs.Plans.{held_of, limit_for}
use Rattle.reports.specs.JsonPieces.{value_text}
use Rattle.reports.specs.PlanNodes.{lock_json, lock_with}
use Rattle.reports.proofs.Growing.{joined_more}
use Rattle.reports.proofs.JsonEvents.{first_more}
use Rattle.reports.proofs.PlanTold.{limit_is}
use Rattle.reports.proofs.plan_nodes.push_locks.Goals as goal

pub loop-place-preserved : goal.loop-place-preserved
loop-place-preserved c =
    let p = c.args.plan.now in
    let held = held_of p c.args.node in
    let place = c.loop-place.place in
    let lock = c.index-locks-place.result in
    let inside : place < length held = grind (arith, common_steps) in
    let there : lock ≡ get_or held place lock = grind (arith, common_steps) in
    let limit : c.limit_at.result ≡ limit_for p (get_or held place lock).key = c.limit_at.ensures ∙ limit_is p c.args.node place lock inside in (
      joined_more (λ lock. value_text (lock_json p lock)) (codes ",") held place lock (string_bytes c.args.json.now) inside c.loop-place.invariant.0 c.in_ok-push_comma.ensures
          (c.in_ok-push_lock.ensures ∙ ap₂ (λ (most : ℕ) (it : Lock). string_bytes c.push_comma.new.json ++ value_text (lock_with most it)) limit there),
      first_more (λ lock. limit_for p lock.key < 256) held place lock inside c.loop-place.invariant.1 (subst (λ (most : ℕ). most < 256) limit (omega arith)),
    )

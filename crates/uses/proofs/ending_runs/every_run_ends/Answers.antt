-- The plan that was asked is the tree's, with the modes that the settings give.
use Rattle.std.proofs.Common.{◌∙◌, ap, subst}
use Rattle.std.specs.Prelude.{◌↔◌, IsTrue}
use Rattle.resource_locks.specs.Held.{plan_of}
use Rattle.resource_locks.specs.Plans.{PlanParts}
use Rattle.termination.specs.Conflicts.{IsFreeOfConflict}
use Rattle.termination.specs.Endings.{EveryRunEnds}
use Rattle.uses.proofs.ending_runs.every_run_ends.Goals as goal

pub returns-clause-exact : goal.returns-clause-exact
returns-clause-exact c =
    let made = c.in_ok-plan.ensures.same ∙ ap (plan_of c.args.tree) c.in_ok-modes.ensures.exact in
    subst (λ (p : PlanParts). IsTrue c.is_free_of_conflict.result ↔ IsFreeOfConflict p) made c.is_free_of_conflict.ensures.free

pub returns-clause-ends : goal.returns-clause-ends
returns-clause-ends c bare found =
    let made = c.in_ok-plan.ensures.same ∙ ap (plan_of c.args.tree) c.in_ok-modes.ensures.exact in
    subst EveryRunEnds made (c.is_free_of_conflict.ensures.ends found (c.in_ok-plan.ensures.free bare))

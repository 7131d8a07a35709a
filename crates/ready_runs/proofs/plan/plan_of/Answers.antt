-- The plan is made of what the request selects; selection, limits and keys are judged in this order.
use Rattle.std.proofs.Common.{◌∙◌, ap, subst, sym}
use Rattle.resource_locks.specs.Limits.{with_limits}
use Rattle.resource_locks.specs.Spares.{HasBareSpares}
use Rattle.launch_options.specs.Asked.{asked_by}
use Rattle.ready_runs.specs.Ready.{plan_of}
use Rattle.ready_runs.proofs.Planning.{limited_so, limits_fail, plan_accepted}
use Rattle.ready_runs.proofs.Selected.{selected_bare}
use Rattle.ready_runs.proofs.plan.plan_of.Goals as goal

pub returns-in_err-limits-clause-refused : goal.returns-in_err-limits-clause-refused
returns-in_err-limits-clause-refused c =
    limits_fail (asked_by c.args.options.now) c.args.tree c.args.properties.now c.in_ok-tree.ensures.accepted c.in_err-limits.field-0.0 c.from_residual-in_err-limits.result c.from_residual-in_err-limits.ensures.1 c.in_err-limits.ensures.refused

pub returns-clause-plan : goal.returns-clause-plan
returns-clause-plan c =
    let options = c.args.options.now in
    let found = c.in_ok-tree.field-0.tree in
    limited_so (asked_by options) c.args.tree c.args.properties.now c.args.settings.now found c.in_ok-limits.limits.items c.in_ok-plan.plan c.in_ok-tree.ensures.ok c.in_ok-limits.ensures.limits
    (c.in_ok-plan.ensures.plan ∙ ap (with_limits (plan_of options.fail_fast options.tolerated c.args.settings.now found)) c.deref.ensures.value)

pub returns-clause-accepted : goal.returns-clause-accepted
returns-clause-accepted c =
    plan_accepted (asked_by c.args.options.now) c.args.tree c.args.properties.now c.in_ok-tree.ensures.accepted c.in_ok-limits.ensures.accepted c.in_ok-tree.field-0.tree c.in_ok-tree.ensures.ok c.in_ok-plan.ensures.accepted

pub returns-clause-never_stuck : goal.returns-clause-never_stuck
returns-clause-never_stuck c bare =
    c.in_ok-plan.ensures.never_stuck (subst HasBareSpares (sym c.in_ok-tree.ensures.ok) (selected_bare c.args.tree c.len.ensures.tree c.args.options.now.request bare))

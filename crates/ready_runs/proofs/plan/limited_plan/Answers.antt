-- The plan has the modes that its nodes are given, fails fast as it is told to, and has these limits.
use Rattle.std.proofs.Common.{◌∙◌, ap}
use Rattle.resource_locks.specs.Limits.{with_limits}
use Rattle.resource_locks.specs.Plans.{PlanParts}
use Rattle.never_stuck.proofs.Theorem.{never_stuck}
use Rattle.ready_runs.proofs.Planning.{both_set, keys_refused, limited_free, limited_guarded, plan_made}
use Rattle.ready_runs.proofs.plan.limited_plan.Goals as goal

pub returns-clause-plan : goal.returns-clause-plan
returns-clause-plan c =
    let options = c.args.options.now in
    c.in_ok-plan-2.ensures.same
    ∙ ap (λ (p : PlanParts). with_limits p c.args.limits.now)
    (plan_made c.args.tree c.args.settings.now options.fail_fast options.tolerated c.in_ok-modes.modes.items c.in_ok-plan.plan c.with_tolerated-plan.result c.in_ok-modes.ensures.exact c.in_ok-plan.ensures.same
    (both_set options.fail_fast options.tolerated c.in_ok-plan.plan c.with_fail_fast-plan.result c.with_tolerated-plan.result c.with_fail_fast-plan.ensures.same c.with_tolerated-plan.ensures.same))

pub returns-clause-guarded : goal.returns-clause-guarded
returns-clause-guarded c =
    let options = c.args.options.now in
    limited_guarded c.args.tree c.in_ok-modes.modes.items options.fail_fast options.tolerated c.in_ok-plan.plan c.with_fail_fast-plan.result c.with_tolerated-plan.result c.in_ok-plan.ensures.same c.with_fail_fast-plan.ensures.same c.with_tolerated-plan.ensures.same
    c.args.limits.now c.in_ok-plan-2.plan c.in_ok-plan-2.ensures.same c.in_ok-plan.ensures.guarded c.with_fail_fast-plan.ensures.guarded c.with_tolerated-plan.ensures.guarded c.in_ok-plan-2.ensures.guarded

pub returns-in_err-plan-clause-refused : goal.returns-in_err-plan-clause-refused
returns-in_err-plan-clause-refused c = keys_refused c.args.tree c.in_err-plan.field-0.0 c.from_residual-in_err-plan.result c.from_residual-in_err-plan.ensures.1 c.in_err-plan.ensures.refused

pub returns-clause-never_stuck : goal.returns-clause-never_stuck
returns-clause-never_stuck c bare =
    let options = c.args.options.now in
    never_stuck c.in_ok-plan-2.plan c.tree.ensures.plan
    (limited_free c.args.tree c.in_ok-modes.modes.items options.fail_fast options.tolerated c.in_ok-plan.plan c.with_fail_fast-plan.result c.with_tolerated-plan.result c.in_ok-plan.ensures.same c.with_fail_fast-plan.ensures.same c.with_tolerated-plan.ensures.same
    c.args.limits.now c.in_ok-plan-2.plan c.in_ok-plan-2.ensures.same (c.in_ok-plan.ensures.free bare))

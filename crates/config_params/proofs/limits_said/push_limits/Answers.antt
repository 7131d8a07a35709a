-- One key more.
use Rattle.config_params.specs.Parameters.{answer_over}
use Rattle.config_params.proofs.LockLimits.{next_fault, next_limits, refused_at}
use Rattle.config_params.proofs.limits_said.push_limits.Goals as goal

pub loop-key-preserved : goal.loop-key-preserved
loop-key-preserved c =
    let answers = answer_over c.args.over.now c.args.under.now in (
      next_limits answers c.args.keys.now c.loop-key.key-index _ c.loop-key-test.true c.args.limits.now.items c.loop-key.limits.items c.push_limit.new.limits.items c.loop-key.invariant.0 c.in_ok-push_limit.ensures.limit,
      next_fault answers c.args.keys.now c.loop-key.key-index _ c.loop-key-test.true c.args.names.now c.loop-key.invariant.1 c.in_ok-push_limit.ensures.accepted,
    )

pub returns-in_err-push_limit-clause-refused : goal.returns-in_err-push_limit-clause-refused
returns-in_err-push_limit-clause-refused c =
    refused_at (answer_over c.args.over.now c.args.under.now) c.args.keys.now c.loop-key.key-index _ c.loop-key-test.true c.args.names.now c.loop-key.invariant.1 c.in_err-push_limit.field-0.0 c.from_residual.result c.from_residual.ensures.1
    c.in_err-push_limit.ensures.refused

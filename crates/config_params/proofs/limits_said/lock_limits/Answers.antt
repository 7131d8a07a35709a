-- The limits are those that the keys say.
use Rattle.std.proofs.Common.{◌≡◌, ◌∙◌, ◌++◌, ap, length, map, arith}
use Rattle.std.proofs.lemmas.Grind.{common_steps}
use Rattle.config_params.specs.LockLimits.{limits_by}
use Rattle.config_params.specs.Parameters.{answer_over}
use Rattle.config_params.proofs.LockLimits.{limits_are, none_said}
use Rattle.config_params.proofs.limits_said.lock_limits.Goals as goal

pub returns-then-is_empty-clause-limits : goal.returns-then-is_empty-clause-limits
returns-then-is_empty-clause-limits c lock =
    let none : length c.in_ok-keys.keys.items ≡ 0 = grind (arith, common_steps) in
    limits_are c.args.over.now c.args.under.now c.new-limits.result.items lock
    (c.new-limits.ensures.items ∙ ap (limits_by (answer_over c.args.over.now c.args.under.now)) (none_said c.in_ok-keys.keys.items none ∙ c.in_ok-keys.ensures))

pub returns-clause-limits : goal.returns-clause-limits
returns-clause-limits c lock =
    let answers = answer_over c.args.over.now c.args.under.now in
    limits_are c.args.over.now c.args.under.now c.push_limits.new.limits.items lock
    (c.in_ok-push_limits.ensures.limits ∙ ap (λ l. l ++ limits_by answers (map (λ key. key.now) c.deref.result.now)) c.new-limits.ensures.items
    ∙ ap (λ keys. limits_by answers (map (λ key. key.now) keys)) c.deref.ensures.value ∙ ap (limits_by answers) c.in_ok-keys.ensures)

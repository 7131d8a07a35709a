-- What the limits say of a key is what the parameters say of its lock.
use Rattle.std.proofs.Common.{◌∙◌, ap, map}
use Rattle.resource_locks.specs.Limits.{limited_by, with_limits}
use Rattle.uses.proofs.limited_plan.limited_by_words.Goals as goal

pub returns : goal.returns
returns c =
    c.in_ok-with_limits.ensures.same ∙ ap (with_limits c.args.plan) c.deref.ensures.value
    ∙ (λ i. limited_by c.args.plan (map (λ lock. c.in_ok-limits.ensures.limits lock i) c.args.plan.keys))

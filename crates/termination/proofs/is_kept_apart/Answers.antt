-- One node more is kept apart, or is not.
use Rattle.std.proofs.Common.{◌≡◌, ℕ, ◌<◌, false, sym, ◌∙◌, subst, arith}
use Rattle.std.proofs.lemmas.Bool.{false≢true}
use Rattle.std.proofs.lemmas.Grind.{common_steps}
use Rattle.termination.specs.Conflicts.{AreKeptApart}
use Rattle.termination.proofs.Free.{next_apart}
use Rattle.termination.proofs.is_kept_apart.Goals as goal

pub returns-then-not-are_kept_apart : goal.returns-then-not-are_kept_apart
returns-then-not-are_kept_apart c =
    let low : c.loop-other.other < c.args.node = grind (arith, common_steps) in
    let here : c.new.result ≡ c.loop-other.other = grind (arith, common_steps) in
    let found : c.are_kept_apart.result ≡ false = c.if-not-are_kept_apart.true in
    (λ t. absurd (false≢true t), λ all. sym found ∙ c.are_kept_apart.ensures.1 (all c.new.result (subst (λ (k : ℕ). k < c.args.node) (sym here) low)))

pub loop-other-preserved : goal.loop-other-preserved
loop-other-preserved c =
    let here : c.new.result ≡ c.loop-other.other = grind (arith, common_steps) in
    next_apart c.args.plan.now c.args.node c.loop-other.other c.loop-other.invariant (subst (AreKeptApart c.args.plan.now c.args.node) here (c.are_kept_apart.ensures.0 c.if-not-are_kept_apart.false))

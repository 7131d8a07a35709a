-- A word that is nearer is found, and another changes nothing.
use Rattle.std.proofs.Common.{ℕ, ◌<◌, ◌≤◌, ◌∙◌, ap, subst, arith}
use Rattle.std.specs.Prelude.{option_map}
use Rattle.std.proofs.lemmas.Grind.{common_steps}
use Rattle.suite_messages.proofs.Nearing.{after_farther, after_nearer}
use Rattle.suite_messages.proofs.nearest.nearest.Goals.{then-apart-least, else-apart-least}
use Rattle.suite_messages.proofs.nearest.nearest.Goals as goal

pub loop-name-preserved : goal.loop-name-preserved
loop-name-preserved c =
    elim c.if-apart-least.branch [
      | then-apart-least w ↦
          let near : c.in_ok-apart.apart < c.loop-name.least = grind (arith, common_steps) in
          after_nearer c.args.word.now c.args.known.now c.loop-name.name-index _ c.loop-name-test.true c.loop-name.least c.if-apart-least.least _ _ c.loop-name.invariant
          (ap (option_map (λ name. name.now)) w.found-is) (w.least-is ∙ c.in_ok-apart.ensures) (subst (λ (n : ℕ). n < c.loop-name.least) c.in_ok-apart.ensures near)
      | else-apart-least w ↦
          let far : c.loop-name.least ≤ c.in_ok-apart.apart = grind (arith, common_steps) in
          after_farther c.args.word.now c.args.known.now c.loop-name.name-index _ c.loop-name-test.true c.loop-name.least c.if-apart-least.least _ _ c.loop-name.invariant
          (ap (option_map (λ name. name.now)) w.found-is) w.least-is (subst (λ (n : ℕ). c.loop-name.least ≤ n) c.in_ok-apart.ensures far)
    ]

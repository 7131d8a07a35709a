-- The numbers behind the node, and then the others.
use Rattle.std.proofs.Common.{◌+◌, ◌<◌, ◌∙◌, ℕ, sym, ap, subst, arith, IsPermutation}
use Rattle.std.specs.List.{All, range_with_len}
use Rattle.std.proofs.lemmas.Grind.{common_steps}
use Rattle.node_sources.specs.Circles.{left_of_circle}
use Rattle.node_sources.proofs.Circles.{behind_is, each_once, all_inside}
use Rattle.node_sources.proofs.circle.Circle.behind.Goals as goal

pub returns-clause-round : goal.returns-clause-round
returns-clause-round c =
    ap (λ (k : ℕ). left_of_circle (k + 1) c.args.nodes c.min.result) c.index-next.ensures.same
    ∙ behind_is c.args.last c.args.nodes c.min.result (λ le. grind (arith, common_steps)) (λ lt. grind (arith, common_steps))

pub returns-clause-each_once : goal.returns-clause-each_once
returns-clause-each_once c = subst (IsPermutation (range_with_len 0 c.args.nodes)) (sym (returns-clause-round c)) (each_once c.args.last c.args.nodes)

pub returns-clause-inside : goal.returns-clause-inside
returns-clause-inside c = subst (All (λ n. n < c.args.nodes)) (sym (returns-clause-round c)) (all_inside c.args.last c.args.nodes)

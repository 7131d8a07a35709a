-- The answer at each exit.
use Rattle.std.proofs.Common.{take, ap, sym, ◌∙◌, refl, arith, length, ◌≤◌}
use Rattle.std.proofs.lemmas.Grind.{common_steps}
use Rattle.unique_id.proofs.Prefixes.{begins}
use Rattle.unique_id.proofs.unique_id.UniqueId.is_prefix_of.Goals as goal

pub returns : goal.returns
returns c =
    let i = c.loop-index.index in
    let mine = c.segments-segments.ensures.items in
    let theirs = c.segments-others.ensures.items in
    let all : length c.args.self.now ≤ i = omega (arith, ap length mine) in
    (λ _. begins c.args.self.now c.args.other.now i all (ap (take i) (sym mine) ∙ c.loop-index.invariant ∙ ap (take i) theirs), λ _. refl)

pub loop-index-preserved : goal.loop-index-preserved
loop-index-preserved c = grind (arith, common_steps)

-- How the search up the parents ends: one step up at a time.
use Rattle.std.proofs.Common.{◌≡◌, ◌≢◌, arith, rules}
use Rattle.descriptor.proofs.Belows.{below_child, below_up, below_under}
use Rattle.descriptor.proofs.tree.Tree.below.Goals as goal

pub returns-then-eq-clause-below : goal.returns-then-eq-clause-below
returns-then-eq-clause-below c =
    let same : c.in-Some.parent ≡ c.args.ancestor = grind arith in
    (λ _. c.loop-parent.invariant.2.1 (below_child _ _ _ _ c.in-Some.ensures.parent same), λ _. search rules)

pub loop-parent-preserved : goal.loop-parent-preserved
loop-parent-preserved c =
    let other : c.in-Some.parent ≢ c.args.ancestor = grind arith in (
      grind (arith, c.in-Some.ensures.parent),
      grind arith,
      (
        λ b. below_up _ _ _ _ c.in-Some.ensures.parent other (c.loop-parent.invariant.2.0 b),
        λ b. c.loop-parent.invariant.2.1 (below_under _ _ _ _ c.in-Some.ensures.parent b),
      ),
    )

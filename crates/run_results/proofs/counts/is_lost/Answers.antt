-- The search goes on at the parent.
use Rattle.std.proofs.Common.{◌≡◌, false, arith, rules}
use Rattle.std.proofs.lemmas.Grind.{common_steps}
use Rattle.run_results.specs.Told.{told_at}
use Rattle.run_results.proofs.Counting.{lost_on}
use Rattle.run_results.proofs.counts.is_lost.Goals as goal

pub loop-current-preserved : goal.loop-current-preserved
loop-current-preserved c =
    let unskipped : (told_at c.args.told.now c.loop-current.current).skipped ≡ false = search rules in
    let on = lost_on c.args.outline.now c.args.told.now c.requires.parents c.args.node c.loop-current.current c.index-current.result c.index-outline-current.result (grind (arith, common_steps)) (grind (arith, common_steps)) unskipped c.index-current.ensures.same c.loop-current.invariant.1 in
    (on.0, on.2)

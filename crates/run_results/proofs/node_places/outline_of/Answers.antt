-- One more place; the tree's facts on its nodes hold of their places.
use Rattle.std.proofs.Common.{◌≡◌, arith}
use Rattle.std.proofs.lemmas.Grind.{common_steps}
use Rattle.run_results.specs.Counts.{place_of}
use Rattle.run_results.proofs.Places.{places_more, places_follow, places_few}
use Rattle.run_results.proofs.node_places.outline_of.Goals as goal

pub loop-number-preserved : goal.loop-number-preserved
loop-number-preserved c =
    let place : c.place_of.result ≡ place_of c.tree-tree.result.now c.loop-number.number = grind (arith, common_steps) in
    places_more c.tree-tree.result.now c.loop-number.number c.loop-number.outline.items _ c.place_of.result c.loop-number.invariant place c.in_ok-push.ensures.items

pub returns-clause-parents : goal.returns-clause-parents
returns-clause-parents c = places_follow c.tree-tree.result.now c.len-number-end.ensures.tree c.loop-number.outline.items (grind (arith, common_steps))

pub returns-clause-few : goal.returns-clause-few
returns-clause-few c = places_few c.tree-tree.result.now c.len-number-end.ensures.tree c.loop-number.outline.items (grind (arith, common_steps))

-- The counts of one node more.
use Rattle.std.proofs.Common.{arith}
use Rattle.std.proofs.lemmas.Grind.{common_steps}
use Rattle.descriptor.specs.Kinds.{is_container, is_test}
use Rattle.run_results.proofs.Counting.{counts_small, counts_more}
use Rattle.run_results.proofs.counts.count.Goals as goal

pub add-requires : goal.add-requires
add-requires c = counts_small is_container c.args.outline.now c.args.told.now c.loop-index.index 16384 c.loop-index.containers (grind (arith, common_steps)) c.loop-index.invariant.0

pub add-requires-in-loop-index : goal.add-requires-in-loop-index
add-requires-in-loop-index c = counts_small is_test c.args.outline.now c.args.told.now c.loop-index.index 16384 c.loop-index.tests (grind (arith, common_steps)) c.loop-index.invariant.1

pub loop-index-preserved : goal.loop-index-preserved
loop-index-preserved c = (
  counts_more is_container c.args.outline.now c.args.told.now c.loop-index.index c.loop-index.containers c.add.new.self c.counts_as_container.result c.is_found-found.result c.counts_as_skipped-lost.result c.loop-index.invariant.0 c.counts_as_container.ensures c.is_found-found.ensures c.counts_as_skipped-lost.ensures c.add.ensures,
  counts_more is_test c.args.outline.now c.args.told.now c.loop-index.index c.loop-index.tests c.add-in-loop-index.new.self c.counts_as_test.result c.is_found-found.result c.counts_as_skipped-lost.result c.loop-index.invariant.1 c.counts_as_test.ensures c.is_found-found.ensures c.counts_as_skipped-lost.ensures c.add-in-loop-index.ensures,
)

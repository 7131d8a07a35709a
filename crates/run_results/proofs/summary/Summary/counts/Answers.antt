-- What is told of each node is what the events tell, so the counts are theirs.
use Rattle.std.proofs.Common.{◌∙◌, ap}
use Rattle.run_results.specs.Summaries.{SummaryParts}
use Rattle.run_results.specs.Counts.{counts_in, counts_on}
use Rattle.run_results.proofs.Counting.{twelve_are}
use Rattle.run_results.proofs.Skipping.{skips_reach_below}
use Rattle.run_results.proofs.summary.Summary.counts.Goals as goal

pub returns-clause-counts : goal.returns-clause-counts
returns-clause-counts c =
    twelve_are c.self.inside.tally.outline c.self.inside.tally.told c.counts.result.containers c.counts.result.tests c.twelve.result c.counts.ensures.containers c.counts.ensures.tests c.twelve.ensures
    ∙ ap (counts_in c.self.inside.tally.outline) c.self.invariant
    ∙ ap (λ (s : SummaryParts). counts_on s.outline s.got) c.self.view_is

pub returns-clause-skipped : goal.returns-clause-skipped
returns-clause-skipped c t tree is = skips_reach_below t tree c.args.self.now.got

-- What is told of each node is what the events tell, so the counts are theirs.
use Rattle.std.proofs.Common.{◌∙◌, List, ap, subst}
use Rattle.run_results.specs.declared.node_places.NodePlace.{NodePlace}
use Rattle.run_results.specs.Counts.{counts_in, counts_on, counts_of, SkipsReachBelow}
use Rattle.run_results.specs.Results.{ResultParts}
use Rattle.run_results.proofs.Counting.{twelve_are}
use Rattle.run_results.proofs.Skipping.{skips_reach_below}
use Rattle.run_results.proofs.results.Results.counts.Goals as goal

pub returns-clause-counts : goal.returns-clause-counts
returns-clause-counts c =
    twelve_are c.self.inside.tally.outline c.self.inside.tally.told c.counts.result.containers c.counts.result.tests c.twelve.result c.counts.ensures.containers c.counts.ensures.tests c.twelve.ensures
    ∙ ap (counts_in c.self.inside.tally.outline) c.self.invariant.told
    ∙ ap (λ (o : List NodePlace). counts_on o c.self.inside.events.now) c.self.invariant.outline
    ∙ ap (λ (r : ResultParts). counts_of r.plan r.events) c.self.view_is

pub returns-clause-skipped : goal.returns-clause-skipped
returns-clause-skipped c =
    subst (λ (r : ResultParts). SkipsReachBelow r.plan.tree r.events) c.self.view_is
    (skips_reach_below c.self.inside.plan.now.tree c.self.invariant.tree c.self.inside.events.now)

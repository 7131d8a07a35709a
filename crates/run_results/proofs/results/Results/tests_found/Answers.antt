-- Node 0 is no test.
use Rattle.std.proofs.Common.{◌∙◌, ap}
use Rattle.run_results.specs.declared.counts.SortCounts.{SortCounts}
use Rattle.run_results.specs.Results.{ResultParts, tests_found}
use Rattle.run_results.proofs.Reading.{tests_are}
use Rattle.run_results.proofs.results.Results.tests_found.Goals as goal

pub returns : goal.returns
returns c =
    ap (λ (x : SortCounts). x.found) c.counts.ensures.tests ∙ tests_are c.self.inside.plan.now.tree c.self.invariant.tree c.self.inside.events.now c.self.inside.tally.outline c.self.inside.tally.told c.self.invariant.outline c.self.invariant.told
    ∙ ap (λ (r : ResultParts). tests_found r.plan r.events) c.self.view_is

-- What was told of each node is what the events tell.
use Rattle.std.proofs.Common.{◌≡◌, ◌∙◌, sym, subst}
use Rattle.descriptor.specs.Nodes.{size}
use Rattle.run_results.specs.Results.{ResultParts, HasFailed}
use Rattle.run_results.specs.Told.{all_told}
use Rattle.run_results.proofs.Reading.{told_tree, failed_told, told_failed, failure_is}
use Rattle.run_results.proofs.results.Results.failed.Goals as goal

pub returns-clause-node : goal.returns-clause-node
returns-clause-node c =
    let is : c.told.result.now ≡ all_told (size c.self.inside.plan.now.tree) c.self.inside.events.now =
    c.told.ensures ∙ told_tree c.self.inside.plan.now.tree c.self.invariant.tree c.self.inside.events.now c.self.inside.tally.outline c.self.inside.tally.told c.self.invariant.outline c.self.invariant.told in (
      λ yes. subst (λ (r : ResultParts). HasFailed r.plan r.events) c.self.view_is (failed_told c.self.inside.plan.now c.self.inside.events.now c.told.result.now is (c.any_failed.ensures.0 yes)),
      λ failed. c.any_failed.ensures.1 (told_failed c.self.inside.plan.now c.self.inside.events.now c.told.result.now is (subst (λ (r : ResultParts). HasFailed r.plan r.events) (sym c.self.view_is) failed)),
    )

pub returns-clause-failed : goal.returns-clause-failed
returns-clause-failed c = failure_is c.args.self.now.plan c.args.self.now.events c.any_failed.result (returns-clause-node c).0 (returns-clause-node c).1

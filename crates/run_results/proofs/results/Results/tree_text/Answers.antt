-- What was told of each node is what the events tell, however many levels are allowed.
use Rattle.std.proofs.Common.{◌≡◌, ℕ, ◌≤◌, [], string_bytes, subst, arith}
use Rattle.descriptor.specs.Nodes.{size}
use Rattle.run_results.specs.Results.{ResultParts}
use Rattle.run_results.specs.TreeTexts.{drawn_of, lines_below}
use Rattle.run_results.proofs.Reading.{if_ok, told_tree}
use Rattle.run_results.proofs.SameTold.{tree_is}
use Rattle.run_results.proofs.results.Results.tree_text.Goals as goal

pub returns-clause-levels : goal.returns-clause-levels
returns-clause-levels c =
    let known = told_tree c.self.inside.plan.now.tree c.self.invariant.tree c.self.inside.events.now c.self.inside.tally.outline c.self.inside.tally.told c.self.invariant.outline c.self.invariant.told in
    if_ok _ _ c.draw.result
    (λ text drawn. subst (λ (r : ResultParts). (levels : ℕ) → size r.plan.tree ≤ levels → string_bytes text ≡ lines_below (drawn_of c.args.theme r.plan c.args.texts.now r.events) levels [] 0) c.self.view_is
    (tree_is c.args.theme c.self.inside.plan.now c.args.texts.now c.self.inside.events.now c.self.inside.tally.told c.tree.result.now c.told.result.now (string_bytes text) c.tree.ensures.same c.told.ensures known drawn))
    c.draw.ensures

pub returns-clause-text : goal.returns-clause-text
returns-clause-text c = if_ok _ _ c.draw.result (λ text each. each (size c.args.self.now.plan.tree) (omega arith)) (returns-clause-levels c)

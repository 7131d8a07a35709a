-- One more node: whether it is covered is known, and what is taken before it.
use Rattle.std.proofs.Common.{◌<◌, ◌∙◌, ◌∷◌, ◌++◌, [], List, Bool, length, ap, sym, arith}
use Rattle.std.proofs.lemmas.Grind.{common_steps}
use Rattle.descriptor.specs.Nodes.{size}
use Rattle.selectors.specs.declared.selector.Selector.{Selector}
use Rattle.selectors.specs.Covered.{is_covered}
use Rattle.selectors.specs.Keeping.{is_taken}
use Rattle.selectors.specs.Selections.{is_selected}
use Rattle.selectors.proofs.Truths.{inside_truths, read_truth, truths_more}
use Rattle.selectors.proofs.taken.taken.Goals as goal

pub index-requires : goal.index-requires
index-requires c =
    let inside : c.loop-number.number < length c.in_ok-covered.covered.items = inside_truths c.in_ok-covered.covered.items (is_covered c.args.tree.now c.as_slice.result.now) (size c.args.tree.now) c.loop-number.number c.in_ok-covered.ensures (grind (arith, common_steps)) in
    grind (arith, common_steps)

pub is_taken-requires-clause-covered : goal.is_taken-requires-clause-covered
is_taken-requires-clause-covered c =
    let inside : c.loop-number.number < size c.args.tree.now = grind (arith, common_steps) in
    c.index.ensures
    ∙ read_truth c.in_ok-covered.covered.items (is_covered c.args.tree.now c.as_slice.result.now) (size c.args.tree.now) c.loop-number.number c.index.result.now c.in_ok-covered.ensures inside
    ∙ ap (λ (selectors : List Selector). is_covered c.args.tree.now selectors c.loop-number.number) c.as_slice.ensures.value
    ∙ ap (is_covered c.args.tree.now c.args.request.now.selectors.items) (sym c.new-node.ensures)

pub loop-number-preserved : goal.loop-number-preserved
loop-number-preserved c =
    let q = is_taken c.args.tree.now (is_selected c.args.tree.now c.args.request.now) in
    c.in_ok-push.ensures.items ∙ ap (λ (xs : List Bool). xs ++ c.in_ok-here.here ∷ []) c.loop-number.invariant
    ∙ truths_more q c.loop-number.number c.in_ok-here.here (c.in_ok-here.ensures ∙ ap q c.new-node.ensures)

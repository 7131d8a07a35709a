-- A node is covered where its parent is, or it is named.
use Rattle.std.proofs.Common.{◌≡◌, false, ◌∙◌, ap, get_or, arith}
use Rattle.std.proofs.lemmas.Grind.{common_steps}
use Rattle.selectors.specs.Covered.{is_covered}
use Rattle.selectors.proofs.Covering.{covered_by_parent, covered_by_name}
use Rattle.selectors.proofs.Truths.{inside_truths, read_truth}
use Rattle.selectors.proofs.covered.is_covered.Goals as goal

pub bounds-before-index : goal.bounds-before-index
bounds-before-index c =
    inside_truths c.args.before.now (is_covered c.args.tree.now c.args.selectors.now) c.args.node c.index.result c.requires.before (grind (arith, common_steps))

pub returns-then-before-index : goal.returns-then-before-index
returns-then-before-index c =
    let same : c.index.result ≡ c.in-Some.parent = grind (arith, common_steps) in
    let above : get_or c.args.before.now c.index.result false ≡ is_covered c.args.tree.now c.args.selectors.now c.in-Some.parent =
    read_truth c.args.before.now (is_covered c.args.tree.now c.args.selectors.now) c.args.node c.index.result false c.requires.before (grind (arith, common_steps)) ∙ ap (is_covered c.args.tree.now c.args.selectors.now) same in
    covered_by_parent c.args.tree.now c.requires.tree c.args.selectors.now c.in-Some.parent c.args.node (get_or c.args.before.now c.index.result false) c.in-Some.ensures.parent above c.if-before-index.true

pub returns-else-before-index : goal.returns-else-before-index
returns-else-before-index c =
    let same : c.index.result ≡ c.in-Some.parent = grind (arith, common_steps) in
    let above : get_or c.args.before.now c.index.result false ≡ is_covered c.args.tree.now c.args.selectors.now c.in-Some.parent =
    read_truth c.args.before.now (is_covered c.args.tree.now c.args.selectors.now) c.args.node c.index.result false c.requires.before (grind (arith, common_steps)) ∙ ap (is_covered c.args.tree.now c.args.selectors.now) same in
    c.is_named.ensures ∙ covered_by_name c.args.tree.now c.requires.tree c.args.selectors.now c.in-Some.parent c.args.node (get_or c.args.before.now c.index.result false) c.in-Some.ensures.parent above c.if-before-index.false

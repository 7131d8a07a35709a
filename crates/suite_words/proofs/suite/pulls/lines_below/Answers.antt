-- A tree has few nodes, and a node that it lacks has no children.
use Rattle.std.proofs.Common.{◌≤◌, length, subst, sym, arith}
use Rattle.descriptor.specs.Nodes.{size}
use Rattle.suite_words.proofs.Reading.Pulls.{few_children, no_children}
use Rattle.suite_words.proofs.suite.pulls.lines_below.Goals as goal

pub overflow_cast-result : goal.overflow_cast-result
overflow_cast-result c =
    let few : length c.children.result.now ≤ 16384 = subst (λ l. length l ≤ 16384) (sym c.children.ensures) (few_children c.args.tree.now c.args.node c.len.ensures.tree) in
    omega (arith, few)

pub returns-then-index-len-clause-few : goal.returns-then-index-len-clause-few
returns-then-index-len-clause-few c = subst (λ l. length l ≤ 16384) (sym c.children.ensures) (few_children c.args.tree.now c.args.node c.len.ensures.tree)

pub returns-else-index-len-clause-lines : goal.returns-else-index-len-clause-lines
returns-else-index-len-clause-lines c =
    let past : size c.args.tree.now ≤ c.args.node = omega (arith, c.if-index-len.false, c.len.ensures.len, c.index.ensures.same) in
    no_children c.args.tree.now c.args.node c.len.ensures.tree past

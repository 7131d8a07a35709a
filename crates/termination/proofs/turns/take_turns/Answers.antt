-- The nodes lie apart, as in conflict they cannot be one above the other; and they take turns as their branches do.
use Rattle.std.proofs.Common.{◌≢◌, ◌<◌, sym, ◌∙◌, subst, arith}
use Rattle.descriptor.specs.Nodes.{Nodes}
use Rattle.resource_locks.specs.Declarations.{AtOrBelow}
use Rattle.termination.specs.Inside.Branches.{IsBranch}
use Rattle.termination.proofs.Free.{conflict_apart, siblings, turns_so, so_turns}
use Rattle.termination.proofs.turns.take_turns.Goals as goal

pub branch-left-requires-clause-apart : goal.branch-left-requires-clause-apart
branch-left-requires-clause-apart c =
    let differ : c.args.one ≢ c.args.other = λ e. (let less = c.requires.other in omega (arith, less, e)) in
    let apart = conflict_apart c.args.plan.now c.tree-tree.ensures.plan c.args.one c.args.other differ c.requires.conflict in
    subst (λ (t : Nodes). AtOrBelow t c.args.one c.args.other → ⊥) (sym c.tree-tree.ensures.same) apart.one

pub branch-right-requires-clause-apart : goal.branch-right-requires-clause-apart
branch-right-requires-clause-apart c =
    let differ : c.args.one ≢ c.args.other = λ e. (let less = c.requires.other in omega (arith, less, e)) in
    let apart = conflict_apart c.args.plan.now c.tree-tree.ensures.plan c.args.one c.args.other differ c.requires.conflict in
    subst (λ (t : Nodes). AtOrBelow t c.args.other c.args.one → ⊥) (sym c.tree-tree.ensures.same) apart.other

pub returns-then-index : goal.returns-then-index
returns-then-index c =
    let less = c.requires.other in
    let inside = c.requires.one in
    let differ : c.args.one ≢ c.args.other = λ e. omega (arith, less, e) in
    let apart = conflict_apart c.args.plan.now c.tree-tree.ensures.plan c.args.one c.args.other differ c.requires.conflict in
    let left = subst (λ (t : Nodes). IsBranch t c.args.one c.args.other c.branch-left.result) c.tree-tree.ensures.same c.branch-left.ensures in
    let right = subst (λ (t : Nodes). IsBranch t c.args.other c.args.one c.branch-right.result) c.tree-tree.ensures.same c.branch-right.ensures in
    let before : c.branch-left.result < c.branch-right.result = (let lt = c.if-index.true in let a = c.index.ensures.same in let b = c.index-2.ensures.same in omega (arith, lt, a, b)) in (
      λ first. turns_so c.args.plan.now c.tree-tree.ensures.plan c.args.one c.args.other c.branch-left.result c.branch-right.result inside (omega (arith, less, inside)) apart left right (λ lt. sym c.goes_first.ensures ∙ first) (λ lt. absurd (omega (arith, lt, before))),
      λ turns. c.goes_first.ensures ∙ (so_turns c.args.plan.now c.tree-tree.ensures.plan c.args.one c.args.other c.branch-left.result c.branch-right.result inside (omega (arith, less, inside)) apart left right turns).0 before,
    )

pub returns-else-index : goal.returns-else-index
returns-else-index c =
    let less = c.requires.other in
    let inside = c.requires.one in
    let differ : c.args.one ≢ c.args.other = λ e. omega (arith, less, e) in
    let apart = conflict_apart c.args.plan.now c.tree-tree.ensures.plan c.args.one c.args.other differ c.requires.conflict in
    let left = subst (λ (t : Nodes). IsBranch t c.args.one c.args.other c.branch-left.result) c.tree-tree.ensures.same c.branch-left.ensures in
    let right = subst (λ (t : Nodes). IsBranch t c.args.other c.args.one c.branch-right.result) c.tree-tree.ensures.same c.branch-right.ensures in
    let apart_so = (siblings c.args.plan.now c.tree-tree.ensures.plan c.args.one c.args.other c.branch-left.result c.branch-right.result inside (omega (arith, less, inside)) apart left right).2 in
    let before : c.branch-right.result < c.branch-left.result = (let ge = c.if-index.false in let a = c.index.ensures.same in let b = c.index-2.ensures.same in omega (arith, ge, a, b, apart_so)) in (
      λ first. turns_so c.args.plan.now c.tree-tree.ensures.plan c.args.one c.args.other c.branch-left.result c.branch-right.result inside (omega (arith, less, inside)) apart left right (λ lt. absurd (omega (arith, lt, before))) (λ lt. sym c.goes_first-else-index.ensures ∙ first),
      λ turns. c.goes_first-else-index.ensures ∙ (so_turns c.args.plan.now c.tree-tree.ensures.plan c.args.one c.args.other c.branch-left.result c.branch-right.result inside (omega (arith, less, inside)) apart left right turns).1 before,
    )

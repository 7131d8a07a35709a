-- A node that is named is covered, and where none is named none is covered.
use Rattle.std.proofs.Common.{◌≡◌, ◌<◌, ℕ, true, false, sym, subst, arith}
use Rattle.std.proofs.lemmas.Grind.{common_steps}
use Rattle.descriptor.specs.Nodes.{size}
use Rattle.selectors.specs.Covered.{any_below}
use Rattle.selectors.specs.Names.{names}
use Rattle.selectors.proofs.Covering.{matches_at, matches_none}
use Rattle.selectors.proofs.Truths.{none_at, none_more}
use Rattle.selectors.proofs.refusal.matches.Goals as goal

pub returns-then-names : goal.returns-then-names
returns-then-names c =
    let inside : c.loop-number.number < size c.args.tree.now = grind (arith, common_steps) in
    let named : names c.args.tree.now c.args.selector.now c.loop-number.number ≡ true = grind (arith, common_steps) in
    sym (matches_at c.args.tree.now c.requires c.args.selector.now c.loop-number.number inside named)

pub loop-number-preserved : goal.loop-number-preserved
loop-number-preserved c =
    let not_named : names c.args.tree.now c.args.selector.now c.loop-number.number ≡ false = grind (arith, common_steps) in
    none_more (names c.args.tree.now c.args.selector.now) c.loop-number.number c.loop-number.invariant not_named

pub returns : goal.returns
returns c =
    let all : c.loop-number.number ≡ size c.args.tree.now = grind (arith, common_steps) in
    let none : any_below (names c.args.tree.now c.args.selector.now) (size c.args.tree.now) ≡ false = subst (λ (n : ℕ). any_below (names c.args.tree.now c.args.selector.now) n ≡ false) all c.loop-number.invariant in
    sym (matches_none c.args.tree.now c.requires c.args.selector.now (λ i inside. none_at (names c.args.tree.now c.args.selector.now) (size c.args.tree.now) i none inside))

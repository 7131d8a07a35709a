-- The name of the node above, and the sign between.
use Rattle.std.proofs.Common.{◌≡◌, ◌≢◌, ◌∙◌, sym, codes, arith, Some}
use Rattle.std.proofs.lemmas.Grind.{common_steps}
use Rattle.selectors.specs.ClassNames.{last_segment}
use Rattle.selectors.proofs.NameEnds.{sign_nested, sign_other}
use Rattle.selectors.proofs.name_end.sign_and_outer.Goals as goal

pub returns-in-text : goal.returns-in-text
returns-in-text c =
    let last : last_segment c.args.tree.now c.args.node ≡ Some c.last_segment.result.now = grind (arith, common_steps) in
    let kind : c.last_segment.result.now.kind ≡ codes "nested-class" = sym c.kind.ensures ∙ c.in-text.is in
    sign_nested c.args.tree.now c.requires.tree c.args.node c.in_ok-parent.parent c.last_segment.result.now c.in_ok-parent.ensures.parent last kind c.requires.named c.name_to.result (c.name_to.ensures.number, c.name_to.ensures.left)

pub returns-in_default : goal.returns-in_default
returns-in_default c =
    let last : last_segment c.args.tree.now c.args.node ≡ Some c.last_segment.result.now = grind (arith, common_steps) in
    let class : c.last_segment.result.now.kind ≢ codes "class" = λ same. c.in_default.not-class (c.kind.ensures ∙ same) in
    let nested : c.last_segment.result.now.kind ≢ codes "nested-class" = λ same. c.in_default.not-text (c.kind.ensures ∙ same) in
    sign_other c.args.tree.now c.requires.tree c.args.node c.in_ok-parent.parent c.last_segment.result.now c.in_ok-parent.ensures.parent last class nested c.requires.named c.name_to-in_default.result (c.name_to-in_default.ensures.number, c.name_to-in_default.ensures.left)

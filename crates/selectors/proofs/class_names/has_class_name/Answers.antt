-- One step up: the name without its last part.
use Rattle.std.proofs.Common.{◌≡◌, ◌∙◌, Some, codes, arith}
use Rattle.std.proofs.lemmas.Grind.{common_steps}
use Rattle.selectors.specs.ClassNames.{last_segment}
use Rattle.selectors.proofs.ClassName.{parent_inside, told_nested}
use Rattle.selectors.proofs.class_names.has_class_name.Goals as goal

pub loop-parent-preserved : goal.loop-parent-preserved
loop-parent-preserved c =
    let last : last_segment c.args.tree.now c.loop-parent.current ≡ Some c.last_segment-last.result.now = grind (arith, common_steps) in
    let kind : c.last_segment-last.result.now.kind ≡ codes "nested-class" = grind (arith, common_steps) in (
      parent_inside c.args.tree.now c.requires.tree c.loop-parent.current c.in-Some.parent c.last_segment-last.result.now c.in-Some.ensures.parent last,
      c.loop-parent.invariant.1
          ∙ told_nested c.args.tree.now c.requires.tree c.loop-parent.current c.in-Some.parent c.last_segment-last.result.now c.in-Some.ensures.parent last c.loop-parent.left.now c.in-Some-outer_name.outer.now kind (grind (arith, common_steps)),
    )

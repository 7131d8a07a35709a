-- A nested class has a class name where the node above it has one.
use Rattle.std.proofs.Common.{◌≡◌, ◌∙◌, codes, arith, Some}
use Rattle.std.proofs.lemmas.Grind.{common_steps}
use Rattle.selectors.specs.ClassNames.{last_segment}
use Rattle.selectors.proofs.ClassName.{parent_inside}
use Rattle.selectors.proofs.NameEnds.{nested_has}
use Rattle.selectors.proofs.name_end.has_a_class_name.Goals as goal

pub loop-parent-preserved : goal.loop-parent-preserved
loop-parent-preserved c =
    let last : last_segment c.args.tree.now c.loop-parent.current ≡ Some c.last_segment.result.now = grind (arith, common_steps) in
    let kind : c.last_segment.result.now.kind ≡ codes "nested-class" = grind (arith, common_steps) in (
      parent_inside c.args.tree.now c.requires.tree c.loop-parent.current c.in-Some.parent c.last_segment.result.now c.in-Some.ensures.parent last,
      c.loop-parent.invariant.1
          ∙ nested_has c.args.tree.now c.requires.tree c.loop-parent.current c.in-Some.parent c.last_segment.result.now c.in-Some.ensures.parent last kind,
    )

-- The name of a method right below a node with a class name.
use Rattle.std.proofs.Common.{◌≡◌, ◌∙◌, sym, true, arith, Some}
use Rattle.std.proofs.lemmas.Grind.{common_steps}
use Rattle.std.specs.Option.{is_some}
use Rattle.selectors.specs.ClassNames.{class_name, is_of_method, last_segment}
use Rattle.selectors.proofs.NameEnds.{method_whole}
use Rattle.selectors.proofs.name_end.method_name.Goals as goal

pub returns-then-has_a_class_name : goal.returns-then-has_a_class_name
returns-then-has_a_class_name c =
    let last : last_segment c.args.tree.now c.args.node ≡ Some c.last_segment.result.now = grind (arith, common_steps) in
    let method : is_of_method c.last_segment.result.now ≡ true = sym c.is_of_method.ensures ∙ c.if-is_of_method.true in
    let has : true ≡ is_some (class_name c.args.tree.now c.in_ok-parent.parent) = sym c.if-has_a_class_name.true ∙ c.has_a_class_name.ensures in
    method_whole c.args.tree.now c.requires.tree c.args.node c.in_ok-parent.parent c.last_segment.result.now c.in_ok-parent.ensures.parent last method has c.name_to.result (c.name_to.ensures.number, c.name_to.ensures.left)

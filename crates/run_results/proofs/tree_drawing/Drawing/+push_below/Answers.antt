-- A sibling more, and the text with all of them.
use Rattle.std.proofs.Common.{◌≡◌, ◌∙◌, ◌<◌, ◌++◌, [], ◌∷◌, ap, sym, arith, string_bytes}
use Rattle.std.proofs.lemmas.Grind.{common_steps}
use Rattle.descriptor.specs.Nodes.{IsTree, size}
use Rattle.run_results.specs.Inside.Drawings.{drawn_by}
use Rattle.run_results.specs.TreeSigns.{item}
use Rattle.run_results.specs.TreeTexts.{children_drawn, line}
use Rattle.run_results.proofs.Siblings.{grows_first, grows_more, grows_all, next_between, nothing_below}
use Rattle.run_results.proofs.tree_drawing.Drawing.+push_below.Goals as goal

pub returns-then-is_empty : goal.returns-then-is_empty
returns-then-is_empty t c levels enough =
    let empty : c.in_ok-children.children.items ≡ [] = grind (arith, common_steps) in
    let none : children_drawn (drawn_by c.args.self.now) c.args.node ≡ [] = sym c.in_ok-children.ensures ∙ empty in
    nothing_below (drawn_by c.args.self.now) (c.args.above.now ++ c.args.own.now) c.args.node (string_bytes c.args.text.now) none levels

pub loop-child-init : goal.loop-child-init
loop-child-init t c =
    let all : c.as_slice-left.result.now ≡ children_drawn (drawn_by c.args.self.now) c.args.node = c.as_slice-left.ensures.value ∙ c.in_ok-children.ensures in
    let tree : IsTree c.args.self.now.tree.now = assumption in
    grows_first (drawn_by c.args.self.now) (c.args.above.now ++ c.args.own.now) c.args.node (string_bytes c.args.text.now) c.as_slice-left.result.now tree all

pub push_line-requires : goal.push_line-requires
push_line-requires t c =
    let next = next_between (drawn_by c.args.self.now) (c.args.above.now ++ c.args.own.now) c.args.node (string_bytes c.args.text.now) (string_bytes c.loop-child.text) c.loop-child.left.now c.in-Some.child.now c.in-Some.rest.now
    c.loop-child.invariant c.in-Some.ensures.cases.0 in
    record { above_zero = omega (arith, next.above); inside = next.inside }

pub loop-child-preserved : goal.loop-child-preserved
loop-child-preserved t c =
    let drawn = drawn_by c.args.self.now in
    let items = c.args.above.now ++ c.args.own.now in
    let child = c.in-Some.child.now in
    let is_last = c.is_empty-is_last.result in
    let first : c.loop-child.left.now ≡ child ∷ c.in-Some.rest.now = c.in-Some.ensures.cases.0 in
    let shown : c.as_str.result.now ≡ items = c.as_str.ensures.value ∙ c.in_ok-items.ensures in
    let again : c.as_str-in-Some.result.now ≡ items = c.as_str-in-Some.ensures.value ∙ c.in_ok-items.ensures in
    let lined : string_bytes c.push_line.new.text ≡ string_bytes c.loop-child.text ++ line drawn items child is_last = c.in_ok-push_line.ensures ∙ ap (λ l. string_bytes c.loop-child.text ++ line drawn l child is_last) shown in
    let below : c.as_str-in-Some.result.now ++ c.item.result.now ≡ items ++ item c.args.self.now.theme is_last = ap (λ l. l ++ c.item.result.now) again ∙ ap (λ l. items ++ l) c.item.ensures in
    grows_more drawn items c.args.node (string_bytes c.args.text.now) (string_bytes c.loop-child.text) c.loop-child.left.now child c.in-Some.rest.now is_last
    (string_bytes c.push_line.new.text) (c.as_str-in-Some.result.now ++ c.item.result.now) (string_bytes c.push_below.new.text)
    c.loop-child.invariant first c.is_empty-is_last.ensures lined below c.in_ok-push_below.ensures

pub returns : goal.returns
returns t c =
    let none : c.loop-child.left.now ≡ [] = grind (arith, common_steps) in
    let inside : c.args.node < size c.args.self.now.tree.now = omega arith in
    grows_all (drawn_by c.args.self.now) (c.args.above.now ++ c.args.own.now) c.args.node (string_bytes c.args.text.now) (string_bytes c.loop-child.text) c.loop-child.left.now c.loop-child.invariant none inside

-- A node that is not named is covered where its parent is.
use Rattle.std.proofs.Common.{◌≡◌, false, sym, ap, ◌∙◌}
use Rattle.std.specs.Prelude.{◌||◌}
use Rattle.descriptor.specs.Nodes.{parent_of}
use Rattle.selectors.specs.Names.{covers, names}
use Rattle.selectors.proofs.AtOrBelows.{parent_inside}
use Rattle.selectors.proofs.Covering.{covers_up}
use Rattle.selectors.proofs.covered.covers.Goals as goal

pub loop-parent-preserved : goal.loop-parent-preserved
loop-parent-preserved c =
    let e = c.in-Some.ensures.parent in
    let named : names c.args.tree.now c.args.selector.now c.loop-parent.current ≡ false = sym c.names.ensures ∙ c.if-names.false in (
      parent_inside c.args.tree.now c.requires.tree c.in-Some.parent c.loop-parent.current e,
      c.loop-parent.invariant.1
          ∙ covers_up c.args.tree.now c.requires.tree c.args.selector.now c.loop-parent.current e.above_zero e.inside
          ∙ ap (λ b. b || covers c.args.tree.now c.args.selector.now (parent_of c.args.tree.now c.loop-parent.current)) named
          ∙ ap (covers c.args.tree.now c.args.selector.now) e.parent,
    )

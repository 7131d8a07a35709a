-- One more set of tags on the way up.
use Rattle.std.proofs.Common.{◌++◌, ℕ, List, Bor, sym, ◌∙◌, ap}
use Rattle.std.specs.List.{flat_map}
use Rattle.descriptor.specs.Nodes.{tags_or}
use Rattle.selectors.specs.Filters.{tags_together}
use Rattle.selectors.proofs.AtOrBelows.{parent_inside}
use Rattle.selectors.proofs.Tags.{tags_stepped}
use Rattle.selectors.proofs.filter.tags_up.Goals as goal

pub loop-parent-preserved : goal.loop-parent-preserved
loop-parent-preserved c = (
  parent_inside c.args.tree.now c.requires.tree c.in-Some.parent c.loop-parent.current c.in-Some.ensures.parent,
  tags_stepped c.args.tree.now c.requires.tree c.args.node c.in-Some.parent c.loop-parent.current c.in-Some.ensures.parent c.loop-parent.sets.items _ (sym (ap tags_or c.node.ensures)) c.loop-parent.invariant.1
      ∙ ap (λ (items : List (Bor (List (List ℕ)))). flat_map (λ (s : Bor (List (List ℕ))). s.now) items ++ tags_together c.args.tree.now c.in-Some.parent) (sym c.in_ok-push.ensures.items),
)

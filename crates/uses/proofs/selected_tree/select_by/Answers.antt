-- The request that was made.
use Rattle.std.proofs.Common.{[], ◌∷◌, ◌++◌, None, refl, ap, ◌∙◌}
use Rattle.uses.proofs.selected_tree.select_by.Goals as goal

pub returns : goal.returns
returns c =
    (record { selectors = c.push.new.self; names = c.new.result; rerun = c.new-2.result; exclusions = c.new-3.result; include = c.new-4.result; exclude = c.new-5.result; shard = None; seed = None }, c.in-Ok.ensures.items ∙ ap (λ l. l ++ c.args.selector ∷ []) c.new-selectors.ensures.items, c.new.ensures.items, c.new-2.ensures.items, c.new-3.ensures.items, c.new-4.ensures.items, c.new-5.ensures.items, refl, refl, c.in_ok-tree.ensures.ok)

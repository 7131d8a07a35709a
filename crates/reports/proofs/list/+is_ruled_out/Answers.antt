-- The node itself, or its parent.
use Rattle.std.proofs.Common.{◌≡◌, true, false, refl, arith}
use Rattle.std.proofs.lemmas.Grind.{common_steps}
use Rattle.descriptor.specs.Nodes.{is_disabled}
use Rattle.reports.proofs.Upward.{not_out, out_above, out_itself}
use Rattle.reports.proofs.list.+is_ruled_out.Goals as goal

pub returns-then-is_some : goal.returns-then-is_some
returns-then-is_some t c steps enough =
    let off : is_disabled c.args.tree.now c.args.node ≡ true = grind (arith, common_steps) in
    out_itself c.args.tree.now c.args.node off steps

pub returns-in-None : goal.returns-in-None
returns-in-None t c steps enough =
    let on : is_disabled c.args.tree.now c.args.node ≡ false = grind (arith, common_steps) in
    not_out c.args.tree.now c.args.node (c.in-None.ensures.root.0 refl) on steps

pub returns-in-Some : goal.returns-in-Some
returns-in-Some t c steps enough =
    let on : is_disabled c.args.tree.now c.args.node ≡ false = grind (arith, common_steps) in
    out_above c.args.tree.now c.args.node c.in-Some.parent c.is_ruled_out.result c.in-Some.ensures.smaller c.in-Some.ensures.value on c.is_ruled_out.ensures steps enough

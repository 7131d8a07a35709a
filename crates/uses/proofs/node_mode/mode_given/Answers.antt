-- The mode at the node's place.
use Rattle.std.proofs.Common.{Some, ap, sym, ◌∙◌, arith, get_or}
use Rattle.std.proofs.lemmas.Option.{slice_get-get_or}
use Rattle.uses.proofs.node_mode.mode_given.Goals as goal

pub returns : goal.returns
returns c =
    let items = c.in_ok-given.given.items in
    let mode = c.index-2.result.now in
    let inside = c.requires in
    let len = c.in_ok-given.ensures.one_each in
    (c.in_ok-given.ensures.right c.args.node mode inside).0
    (slice_get-get_or items c.args.node mode (omega (arith, inside, len)) ∙ ap Some (ap (λ k. get_or items k mode) (sym c.index.ensures.same) ∙ sym c.index-2.ensures))
